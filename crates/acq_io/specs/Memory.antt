-- Sources and sinks in memory that fail at chosen calls.
use Rattle.std.specs.Prelude.{ℕ, List}

-- a source or a sink that fails at the calls with these numbers: the bytes that are still to come
-- or that were written, how many calls it has had, how many of them have failed, and how many came
-- after one that had
pub record Scripted : Type 0 where
  pub bytes : List ℕ
  pub calls : ℕ
  pub fails : List ℕ
  pub faults : ℕ
  pub late : ℕ

-- before its first call
abbrev pub scripted : List ℕ → List ℕ → Scripted
scripted bytes fails = record { bytes = bytes; calls = 0; fails = fails; faults = 0; late = 0 }
