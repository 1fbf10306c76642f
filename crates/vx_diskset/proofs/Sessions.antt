-- No session that stands on a disk goes past its limit: a header has no place for it.
use Rattle.std.proofs.Common.{◌≡◌, ⊎_elim, ◌+◌, ◌<◌, ◌^◌, ℕ, Bool, true, false, List, subst, arith}
use Rattle.std.specs.Prelude.{nat_lt, if◌then◌else◌}
use Rattle.vx_model.specs.Content.{Content, Write}
use Rattle.vx_model.specs.declared.state.State.{State}
use Rattle.vx_model.specs.declared.units.Units.{Units}
use Rattle.vx_disk.specs.Shelf.{Image}
use Rattle.vx_ringio.specs.Classes.{class_of, classes, narrowed, is_of_ring}
use Rattle.vx_rvg.specs.Holdings.{Holding}
use Rattle.vx_rvg.specs.Stands.{FoundGroup}
use Rattle.vx_srl.specs.Views.{most_number}
use Rattle.vx_srlfmt.specs.Kinds.{Kind, Top, Front, Body, Damaged, Other, IsKind, kind_of}
use Rattle.vx_srlfmt.specs.declared.header.Header.{Header}
use Rattle.vx_srlfmt.proofs.KindLaws.{kind_of-is}
use Rattle.vx_diskset.specs.Lasts.{FoundWith}

narrowed_top : (ring : ℕ) (k : Kind) (h : Header) → narrowed ring k ≡ Top h → k ≡ Top h
narrowed_top ring (Top g) h e = by (is_of_ring ring g) e
  where
    by : (b : Bool) → (if b then Top g else Other) ≡ Top h → Top g ≡ Top h
    by true e = e
    by false e = absurd (cc)
narrowed_top ring (Front r) h e = absurd (cc)
narrowed_top ring (Body bytes) h e = absurd (cc)
narrowed_top ring Damaged h e = absurd (cc)
narrowed_top ring Other h e = absurd (cc)

class_top : (ring : ℕ) (bytes : List ℕ) (h : Header) → class_of ring bytes ≡ Top h → h.incarnation < 2 ^ 63
unfolding class_of
class_top ring bytes h e =
    (subst (λ (k : Kind). IsKind bytes k) (narrowed_top ring (kind_of bytes) h e) (kind_of-is bytes)).can.incarnation

classes_top : (unit ring b : ℕ) (i : Image) (h : Header) → classes unit ring i b ≡ Top h → h.incarnation < 2 ^ 63
classes_top unit ring b i h e = by (nat_lt b (ring + 2)) e
  where
    by : (t : Bool) → (if t then class_of ring (i unit b) else Other) ≡ Top h → h.incarnation < 2 ^ 63
    by true e = class_top ring (i unit b) h e
    by false e = absurd (cc)

pub header_below : (units : Units) (ring : ℕ) (state : State) (session stamp : ℕ) (i : Image) (h : Holding) → FoundGroup units ring state session stamp i h → session < 2 ^ 63
header_below units ring state session stamp i h found =
    subst (λ (k : ℕ). k < 2 ^ 63) found.session_is
    (⊎_elim (λ one. classes_top units.srl ring 0 i found.header one.0) (λ two. classes_top units.srl ring 1 i found.header two.0) found.recovers.starts.counts)

pub found_below_most : (units : Units) (ring : ℕ) (state : State) (session stamp : ℕ) (i : Image) (xs : List Write) (c : Content) → FoundWith units ring state session stamp i xs c → session < 2 ^ 63
found_below_most units ring state session stamp i xs c with = header_below units ring state session stamp i with.held with.found

pub next_below : {next : ℕ} (session : ℕ) → next ≡ session + 1 → next < 2 ^ 63 → session < most_number
next_below session is below = omega (arith, is, below)
