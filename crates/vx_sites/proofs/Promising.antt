-- The promises of the links of a row, one after another.
use Rattle.std.proofs.Common.{◌≡◌, ◌∙◌, ℕ, zero, suc, ◌+◌, ◌-◌, ◌<◌, ◌≤◌, List, ◌++◌, append_assoc, refl, sym, ap, arith}
use Rattle.std.proofs.lemmas.List.{append-nil}
use Rattle.std.specs.Prelude.{Result, Ok, Err, OnOk}
use Rattle.vx_history.specs.Sends.{promising}
use Rattle.vx_history.specs.World.{Node, Link, Promise, Regions, World}
use Rattle.vx_history.specs.Events.{promise_of, promises_of}
use Rattle.vx_sites.specs.Shapes.{with_map}

-- the promises of one more link of those that are left
pub one_promised : (n : Node) (number : ℕ) (row : ℕ → Link) (sites back : ℕ) (old now all : List Promise) (l : Link) → back < sites → l ≡ row (sites - 1 - back)
    → now ≡ old ++ promise_of n number (sites - 1 - back) l → old ++ promises_of n number row (sites - back) ≡ all → now ++ promises_of n number row (sites - (back + 1)) ≡ all
one_promised n number row sites back old now all l lt is added h =
    let to : ℕ = sites - 1 - back in
    let left : sites - (back + 1) ≡ to = omega arith in
    let here : sites - back ≡ suc to = omega arith in
    let own : List Promise = promise_of n number to (row to) in
    ap (λ (m : ℕ). now ++ promises_of n number row m) left
    ∙ ap (λ (ps : List Promise). ps ++ promises_of n number row to) (added ∙ ap (λ (k : Link). old ++ promise_of n number to k) is)
    ∙ append_assoc old own (promises_of n number row to)
    ∙ ap (λ (m : ℕ). old ++ promises_of n number row m) (sym here)
    ∙ h

-- no link is left
pub all_promised : (n : Node) (number : ℕ) (row : ℕ → Link) (sites back : ℕ) (now all : List Promise) → sites ≤ back → now ++ promises_of n number row (sites - back) ≡ all → now ≡ all
all_promised n number row sites back now all le h =
    let none : sites - back ≡ 0 = omega arith in
    sym (append-nil now) ∙ ap (λ (m : ℕ). now ++ promises_of n number row m) (sym none) ∙ h

-- what a row promises does not go by the maps of its links
promised_without : (maps : ℕ → Regions) (n : Node) (number : ℕ) (row : ℕ → Link) (sites : ℕ) → promises_of n number row sites ≡ promises_of n number (λ s. with_map (maps s) (row s)) sites
promised_without maps n number row zero = refl
promised_without maps n number row (suc k) = ap (λ (ps : List Promise). promise_of n number k (row k) ++ ps) (promised_without maps n number row k)

-- what the row of a site promised stands behind the other promises of the world
pub promised_world : {T E : Type 0} (r : Result T E) (w : World) (n : Node) (site number sites : ℕ) (maps : ℕ → Regions) (row : ℕ → Link) (now : List Promise) → w.nodes site ≡ n
    → (λ s. with_map (maps s) (row s)) ≡ w.links site → sites ≡ w.sites
    → OnOk r (now ≡ w.promised ++ promises_of n number row sites) → OnOk r ((let new : World = record w { promised = now } in new) ≡ promising w (promises_of (w.nodes site) number (w.links site) w.sites))
promised_world (Ok x) w n site number sites maps row now node links many is =
    ap (λ (ps : List Promise). let new : World = record w { promised = ps } in new)
    (is
    ∙ ap (λ (ps : List Promise). w.promised ++ ps) (promised_without maps n number row sites)
    ∙ ap (λ (m : Node). w.promised ++ promises_of m number (λ s. with_map (maps s) (row s)) sites) (sym node)
    ∙ ap (λ (f : ℕ → Link). w.promised ++ promises_of (w.nodes site) number f sites) links
    ∙ ap (λ (k : ℕ). w.promised ++ promises_of (w.nodes site) number (w.links site) k) many)
promised_world (Err e) w n site number sites maps row now node links many is = tt
