-- What stands in a place of assembly behind a packet.
use Rattle.std.proofs.Common.{◌≡◌, Bool, true, false, List, sym, ap, ◌∙◌}
use Rattle.std.specs.Prelude.{Option, Some, None, if◌then◌else◌}
use Rattle.vx_history.specs.World.{Key, Gathering, Packet}
use Rattle.vx_history.specs.Gatherings.{key_of, came_after, all_came, completes, left_by}

-- the message is whole
pub left_whole : (g : Option Gathering) (p : Packet) (came : List Bool) (whole : Bool) → came ≡ came_after g p → whole ≡ all_came came → whole ≡ true → None ≡ left_by g p
left_whole g p came whole is made e =
    let all : completes g p ≡ true = ap all_came (sym is) ∙ sym made ∙ e in
    sym (ap (λ (b : Bool). if b then None else Some (record { key = key_of p; came = came_after g p })) all)

-- some part has not come
pub left_part : (g : Option Gathering) (p : Packet) (came : List Bool) (whole : Bool) (key : Key) → came ≡ came_after g p → whole ≡ all_came came → whole ≡ false → key ≡ key_of p
    → Some (record { key = key; came = came }) ≡ left_by g p
left_part g p came whole key is made e k =
    let some : completes g p ≡ false = ap all_came (sym is) ∙ sym made ∙ e in
    ap (λ (x : Key). let h : Gathering = record { key = x; came = came } in Some h) k
    ∙ ap (λ (c : List Bool). let h : Gathering = record { key = key_of p; came = c } in Some h) is
    ∙ sym (ap (λ (b : Bool). if b then None else Some (record { key = key_of p; came = came_after g p })) some)
