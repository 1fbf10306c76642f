-- What a good world says of the updates that are under way.
use Rattle.std.proofs.Common.{◌≡◌, ◌∙◌, ◌+◌, ◌<◌, ◌≤◌, ◌&&◌, ℕ, zero, suc, true, List, [], ◌∷◌, length, ap, sym, subst, refl, arith}
use Rattle.std.specs.Prelude.{Some, leb, ltb, slice_get}
use Rattle.std.proofs.lemmas.Bool.Decides.{nat_tests}
use Rattle.vx_model.specs.Content.{IsNumber, Write, blocks_in}
use Rattle.vx_model.specs.declared.history.Line.{Line}
use Rattle.vx_model.specs.declared.site.SiteState.TheVariants.{Bare, Up}
use Rattle.vx_history.specs.Events.{packet_at}
use Rattle.vx_history.specs.Fits.{WriteFits, IsAlike, blocks_of_volume}
use Rattle.vx_history.specs.Good.{IsMade}
use Rattle.vx_history.specs.GoodWorld.{GoodWorld}
use Rattle.vx_history.specs.Sound.{GoodMessage, GoodPacket}
use Rattle.vx_history.specs.World.{Message, Node, Packet, Update, Volume, World}
use Rattle.vx_world.proofs.Keeping.{fits_alike}
use Rattle.vx_world.proofs.Lists.{each_found}
use Rattle.vx_courier.proofs.Flying.{place_of_number}
use Rattle.vx_courier.specs.Together.{AreOne}
use Rattle.vx_disk.specs.Shelf.{Meaning}
use Rattle.vx_rvg.specs.Holdings.{update_of}
use Rattle.vx_rvg.specs.Views.{Core, unit_of}
use Rattle.vx_secondary.specs.Receivers.{can_log}
use Rattle.vx_diskset.specs.Layouts.{LiesOn, units_of}
use Rattle.vx_diskset.proofs.Laying.{laid_in}

-- ---- an update carries the write that its line holds under its number

number_said : (held : List Write) (n : Node) (l : Line) (m : Message) (k : ℕ) (x : Write) → m ≡ Update k x → GoodMessage held n l m → IsNumber held k x
number_said held n l m k x is good = subst (λ (t : Message). GoodMessage held n l t) is good

pub update_said : (w : World) (j : ℕ) (p : Packet) (k : ℕ) (x : Write) → GoodWorld w → slice_get w.packets j ≡ Some p → p.message ≡ Update k x → IsNumber (w.lines p.line).held k x
update_said w j p k x good there is =
    let packet : GoodPacket w.nodes w.links w.lines p = each_found (GoodPacket w.nodes w.links w.lines) w.packets j p there good.sound.packets in
    number_said (w.lines p.line).held (w.nodes p.source) p.line p.message k x is packet.said

same_write : (held : List Write) (k : ℕ) (x y : Write) → IsNumber held k x → IsNumber held k y → x ≡ y
same_write held k x y one two = let e : Some x ≡ Some y = sym one.1 ∙ two.1 in cc

pub are_one : (w : World) → GoodWorld w → AreOne w.packets
are_one w good = record {
  each = λ i j k p q x y here there lines first second.
      same_write (w.lines q.line).held k x y
      (subst (λ (l : Line). IsNumber (w.lines l).held k x) lines (update_said w i p k x good here first))
      (update_said w j q k y good there second);
}

-- ---- it fits each site on that line

made_up : (n : Node) → n.state ≡ Up → IsMade n
made_up n up bare = let e : Up ≡ Bare = sym up ∙ bare in absurd (cc)

pub update_fits : (w : World) (number : ℕ) (p : Packet) (k : ℕ) (x : Write) → GoodWorld w → packet_at w.packets number ≡ Some p → p.message ≡ Update k x → (w.nodes p.target).state ≡ Up → p.line ≡ (w.nodes p.target).line → WriteFits (w.nodes p.target) x
update_fits w number p k x good at is up line =
    let found = place_of_number w.packets number p at in
    let said : IsNumber (w.lines p.line).held k x = update_said w found.0 p k x good found.2 is in
    let origin : WriteFits (w.nodes p.line.origin) x = each_found (WriteFits (w.nodes p.line.origin)) (w.lines p.line).held _ x said.1 (good.fits.held p.line) in
    let alike : IsAlike (w.nodes p.line.origin) (w.nodes p.target) = subst (λ (l : Line). IsAlike (w.nodes l.origin) (w.nodes p.target)) (sym line) (good.fits.alike p.target (made_up (w.nodes p.target) up)) in
    fits_alike (w.nodes p.line.origin) (w.nodes p.target) x alike origin

-- ---- so its group can log it

-- a volume with blocks is one of the list
volume_exists : (xs : List Volume) (v : ℕ) → 0 < blocks_of_volume xs v → v < length xs
volume_exists [] v some = absurd (omega (arith, some))
volume_exists (x ∷ xs) zero some = omega arith
volume_exists (x ∷ xs) (suc v) some = let rest = volume_exists xs v some in omega (arith, rest)

volume_at : (xs : List Volume) (v : ℕ) → v < length xs → (x : Volume) × (slice_get xs v ≡ Some x) × (blocks_of_volume xs v ≡ x.blocks)
volume_at [] v low = absurd (omega (arith, low))
volume_at (x ∷ xs) zero low = (x, refl, refl)
volume_at (x ∷ xs) (suc v) low = volume_at xs v (omega (arith, low))

all_fit : (vol count block blocks ring size many : ℕ) → vol < many → count + 1 ≤ ring → block + count ≤ size → (ltb vol many && (leb (count + 1) ring && leb (block + count) size)) ≡ true
all_fit vol count block blocks ring size many there room within = grind (arith, nat_tests)

pub fits_group : (n : Node) (c : Core) (m : Meaning) (line : Line) (k : ℕ) (x : Write) → LiesOn n m → c.units ≡ units_of n → c.log.ring ≡ n.ring → WriteFits n x → can_log c m.size (update_of line k x) ≡ true
fits_group n c m line k x lies units ring fits =
    let laid = laid_in n m lies in
    let there : x.volume < length n.volumes = volume_exists n.volumes x.volume (omega (arith, fits.some, fits.within)) in
    let one = volume_at n.volumes x.volume there in
    let own : blocks_of_volume n.volumes x.volume ≡ m.size (unit_of (units_of n).vols x.volume) = one.2 ∙ sym (laid.named x.volume one.0 one.1) ∙ laid.each x.volume there in
    let size : blocks_of_volume n.volumes x.volume ≡ m.size (unit_of c.units.vols x.volume) = own ∙ ap (λ u. m.size (unit_of u.vols x.volume)) (sym units) in
    let many : length c.units.vols ≡ length n.volumes = ap (λ u. length u.vols) units ∙ laid.count in
    all_fit x.volume (blocks_in x.bytes) x.start 0 c.log.ring (m.size (unit_of c.units.vols x.volume)) (length c.units.vols)
    (omega (arith, there, many)) (omega (arith, fits.room, ring)) (omega (arith, fits.within, size))
