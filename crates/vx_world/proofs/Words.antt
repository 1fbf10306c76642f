-- What holds of a sound world, in the words of its laws.
use Rattle.std.proofs.Common.{◌≡◌, inl, ℕ, ◌≤◌, List, length, take, drop, ap, sym, ◌∙◌, subst, arith, true, false}
use Rattle.std.specs.Prelude.{slice_get, Some}
use Rattle.std.proofs.lemmas.List.{length-take, take-append-drop}
use Rattle.vx_model.specs.Content.{Write, Content, IsNumber, fold_writes}
use Rattle.vx_history.specs.World.{World, History, Node, Link, Packet, Promise, Message, Update}
use Rattle.vx_history.specs.GoodCopies.{GoodMode}
use Rattle.vx_history.specs.Regions.{marks_block}
use Rattle.vx_model.specs.declared.link.Mode.{Mode}
use Rattle.vx_model.specs.declared.link.Mode.TheVariants.{Dcm}
use Rattle.vx_model.specs.Sites.{is_origin}
use Rattle.vx_history.specs.Good.{IsMade}
use Rattle.vx_history.proofs.GoodLemmas.{fold_append}
use Rattle.vx_history.specs.Sound.{Sound, IsFollowed, GoodMessage, GoodPacket, GoodPromise, IsKept}
use Rattle.vx_world.proofs.Lists.{each_found}

-- the durable writes, and those above them
pub whole_content : (w : World) (i : ℕ) → Sound w
    → fold_writes (w.nodes i).base (drop (w.nodes i).safe (w.nodes i).log) ≡ fold_writes (w.nodes i).start (w.nodes i).log
whole_content w i s =
    let n : Node = w.nodes i in
    ap (λ (c : Content). fold_writes c (drop n.safe n.log)) ((s.good.nodes i).content (inl (s.takes i)))
    ∙ sym (fold_append n.start (take n.safe n.log) (drop n.safe n.log))
    ∙ ap (λ (xs : List Write). fold_writes n.start xs) (take-append-drop n.safe n.log)

pub answered_kept : (w : World) (i : ℕ) → Sound w → IsMade (w.nodes i) → is_origin (w.nodes i).role ≡ true → (w.lines (w.nodes i).line).told ≤ (w.nodes i).safe
answered_kept w i s made o =
    let n : Node = w.nodes i in
    omega (arith, s.good.told n.line, ap (λ (xs : List Write). length xs) ((s.good.nodes i).origin_log made o), length-take n.safe n.log)

pub promise_kept : (w : World) (k : ℕ) (e : Promise) → Sound w → slice_get w.promised k ≡ Some e → IsKept (w.nodes e.site) e.line e.number e.surety
promise_kept w k e s found = (each_found (GoodPromise w.nodes w.links) w.promised k e found s.promised).kept

pub update_is : (w : World) (k number : ℕ) (p : Packet) (x : Write) → Sound w → slice_get w.packets k ≡ Some p → p.message ≡ Update number x
    → IsNumber (w.lines p.line).held number x
update_is w k number p x s found is =
    subst (λ (m : Message). GoodMessage (w.lines p.line).held (w.nodes p.source) p.line m) is
    (each_found (GoodPacket w.nodes w.links w.lines) w.packets k p found s.packets).said

-- outside its change map a receiver has what the line holds
pub maps_cover : (w : World) (p q volume block : ℕ) → Sound w → is_origin (w.nodes p).role ≡ true → IsFollowed (w.nodes p) (w.nodes q) (w.links p q) → (w.links p q).mode ≡ Dcm
    → marks_block (w.links p q).map volume block ≡ false → (w.nodes q).base.block volume block ≡ (fold_writes (w.nodes q).start (w.lines (w.nodes p).line).held).block volume block
maps_cover w p q volume block s origin follows is unmarked =
    let h : History = w.lines (w.nodes p).line in
    let l : Link = w.links p q in
    (subst (λ (m : Mode). GoodMode h.held (h.replays q) (w.nodes q) l.map l.stored m) is ((s.links p q).says origin follows)).near volume block unmarked
