-- The conditions that are known to be entailed at each depth.
use Rattle.fd_solver.proofs.Prelude.{◌≡◌, ℕ, ◌<◌, List, [], length, sym, subst, slice_index_or, slice_set, get_or-set_same, length-set, Family, Arc, AreEntailed, Entailed, Plan, fixed}
use Rattle.propagators.proofs.Entailing.{are_less}
use Rattle.fd_solver.proofs.Narrowing.{fixed_within}

-- one value was left to a variable
pub entailed_fixed : (arcs : List Arc) (plan : Plan) (e : Entailed) (f g : Family) (v x : ℕ) → v < length f → g ≡ fixed f v x → AreEntailed arcs plan e f → AreEntailed arcs plan e g
entailed_fixed arcs plan e f g v x low is are = subst (AreEntailed arcs plan e) (sym is) (are_less arcs plan e f (fixed f v x) (fixed_within f v x low) (length-set f v _) are)

-- none is known at the first depth
pub begun_known : (arcs : List Arc) (plan : Plan) (depths : List Family) (lists : List Entailed) (f : Family) (none d : Entailed) → 0 < length lists → ((arcs : List Arc) (plan : Plan) (f : Family) → AreEntailed arcs plan none f) → AreEntailed arcs plan (slice_index_or (slice_set lists 0 none) 0 d) (slice_index_or (slice_set depths 0 f) 0 [])
begun_known arcs plan depths lists f none d some are = subst (λ (e : Entailed). AreEntailed arcs plan e (slice_index_or (slice_set depths 0 f) 0 [])) (sym (get_or-set_same lists 0 none d some)) (are arcs plan (slice_index_or (slice_set depths 0 f) 0 []))
