-- Text that is written piece by piece under a limit.
use Rattle.std.specs.Prelude.{ℕ, ◌<◌, ◌≤◌, ◌≡◌, Bool, true, false, List, ◌++◌, length, string_bytes}
use Rattle.cert_check.specs.declared.sheet.Sheet.{Sheet}
use Rattle.cert_check.specs.Reading.{MOST_CERTIFICATE}

-- The pieces so far are the text, or there are too many bytes of them.
abbrev pub IsTextSoFar : Bool → List ℕ → List ℕ → Type 0
IsTextSoFar true text whole = MOST_CERTIFICATE < length whole
IsTextSoFar false text whole = (text ≡ whole) × (length whole ≤ MOST_CERTIFICATE)

abbrev pub IsSheetOf : Sheet → List ℕ → Type 0
IsSheetOf sheet whole = IsTextSoFar sheet.is_full (string_bytes sheet.text) whole

-- a piece more
abbrev pub AddsPiece : Sheet → List ℕ → Sheet → Type 0
AddsPiece old piece new = (whole : List ℕ) → IsSheetOf old whole → IsSheetOf new (whole ++ piece)
