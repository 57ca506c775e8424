-- The mask of the relations that accept the tuple at a place, as a test of choices.
use Rattle.find_c.proofs.Prelude.{◌≡◌, ℕ, ◌^◌, ◌<◌, ◌≤◌, false, [], length, get_or, Some, None, refl, is_one, Language, relations_on, ones_of, accepting_on, Choice, Scene, scene_of, is_accepting, allows_at}
use Rattle.bias_store.proofs.Bits.{any_accepting_bit}

pub told_by : (scene : Scene) (place mask : ℕ) → ((r : ℕ) → is_one mask r ≡ get_or (get_or scene.relations r []) place false) → (c : Choice) → is_accepting mask c ≡ allows_at scene place c
told_by scene place mask is None = refl
told_by scene place mask is (Some r) = is r

-- so of the mask that the kept candidates tell
pub kept_accepting : (l : Language) (s place mask : ℕ) → mask < 2 ^ 64 → length (relations_on l s) ≤ 64 → ones_of mask ≡ accepting_on l s place → (c : Choice) → is_accepting mask c ≡ allows_at (scene_of l s) place c
kept_accepting l s place mask small few is None = refl
kept_accepting l s place mask small few is (Some r) = any_accepting_bit l s place mask r small few is
