-- What an answer makes of what a session knows.
use Rattle.std.specs.Prelude.{ℕ, ◌≡◌, ◌+◌, ◌-◌, ◌^◌, ◌<◌, ◌&&◌, min, not, Bool, filter, length}
use Rattle.assign.specs.Assignment.{Assignment}
use Rattle.language.specs.Language.{Language, violates}
use Rattle.bias_store.specs.KeptSet.{CoversOnly}
use Rattle.session_core.specs.declared.knowledge.Knowledge.{Knowledge}

-- A yes to q strikes what q violates, and the answer is counted. The rest stays.
pub record IsAnswered (before : Knowledge) (q : Assignment) (reply : Bool) (after : Knowledge) :
    Type 0 where
  pub lang : after.lang ≡ before.lang
  pub plan : after.plan ≡ before.plan
  pub network : after.network ≡ before.network
  pub tree : after.tree ≡ before.tree
  pub kept : after.kept.members
      ≡ filter (λ c. not (reply && violates before.lang c q)) before.kept.members
  pub count : after.answers ≡ min (before.answers + 1) (2 ^ 32 - 1)

-- the question gives values to all variables of this scope alone
pub record IsAbout (l : Language) (q : Assignment) (s : ℕ) : Type 0 where
  pub low : s < length l.scopes
  pub alone : CoversOnly l s q
