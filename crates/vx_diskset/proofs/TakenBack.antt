-- Disks that tell no contents stand for a site whatever links its log keeps and whoever feeds it; and where it goes down again, for any that was down on them.
use Rattle.std.proofs.Common.{◌≡◌, ◌∙◌, ◌<◌, ◌+◌, ◌-◌, ℕ, List, ap, sym, arith, IsTrue}
use Rattle.std.specs.Prelude.{None}
use Rattle.vx_model.specs.Content.{zero_block}
use Rattle.vx_model.specs.declared.site.SiteState.TheVariants.{Bare as IsBare, Up as IsUp, Down as IsDown}
use Rattle.vx_history.specs.World.{Node}
use Rattle.vx_disk.specs.Shelf.{Keeps, Lawful, Meaning}
use Rattle.vx_disk.specs.declared.shelf.Shelf.{Ghosts}
use Rattle.vx_rvg.specs.Views.{Core, unit_of}
use Rattle.vx_model.specs.Sizes.{ring_of}
use Rattle.vx_events.proofs.Values.{length-values_from, slice_index-values_from}
use Rattle.vx_model.specs.declared.call.Update.{Update}
use Rattle.vx_diskset.specs.declared.disk_set.DiskSet.{DiskSet}
use Rattle.vx_diskset.specs.declared.disk_set.DiskSet.TheVariants.{Bare, Spoiled, Up, Receives, Down, OfGroup, Over, Gone}
use Rattle.vx_diskset.specs.Holds.{KeptBeside}
use Rattle.vx_diskset.specs.Layouts.{LiesRaw, raw_units}
use Rattle.vx_diskset.specs.Stands.{IsCleanAt, IsDownAt, IsReceiverAt, IsToldAt, IsUpAt, SiteStands}
use Rattle.vx_diskset.specs.Withdrawn.{IsBareOf, Revived}
use Rattle.vx_diskset.proofs.GroupStands.{apart_bare, none_apart}
use Rattle.vx_diskset.proofs.BesideLemmas.{never_besides}
use Rattle.vx_diskset.proofs.StaysUp.{not_true, told_now}
use Rattle.vx_diskset.proofs.RawSets.{raw_alone}

-- ---- any links

up_beside : (b other : KeptBeside) (n : Node) (feeder : ℕ) (c : Core) (m : Meaning) → Lawful m → (IsTrue m.tells → ⊥) → other.doubt ≡ None → IsUpAt b n c m
    → IsUpAt other (record n { fed_by = feeder }) c m
up_beside b other n feeder c m lawful untold sure h = record {
  state = h.state;
  up = h.up;
  fuse = h.fuse;
  lies = h.lies;
  low = h.low;
  units = h.units;
  ring = h.ring;
  found = h.found;
  kept = h.kept;
  linked = λ told. absurd (untold told);
  session = h.session;
  begun = h.begun;
  stamp = λ told none. absurd (untold told);
  fresh = h.fresh;
  first = h.first;
  head = h.head;
  halted = h.halted;
  logged = h.logged;
  durable = h.durable;
  takes = h.takes;
  content = h.content;
  left = λ i now. absurd (untold (told_now m i lawful now));
  sure = λ none. sure;
  may = never_besides other.doubt m sure;
}

receiver_beside : (b other : KeptBeside) (n : Node) (feeder : ℕ) (c : Core) (us : List Update) (m : Meaning) → Lawful m → (IsTrue m.tells → ⊥) → other.doubt ≡ None → IsReceiverAt b n c us m
    → IsReceiverAt other (record n { fed_by = feeder }) c us m
receiver_beside b other n feeder c us m lawful untold sure h = record {
  state = h.state;
  role = h.role;
  up = h.up;
  fuse = h.fuse;
  lies = h.lies;
  low = h.low;
  units = h.units;
  ring = h.ring;
  found = h.found;
  kept = h.kept;
  linked = λ told. absurd (untold told);
  session = h.session;
  begun = h.begun;
  stamp = λ told none. absurd (untold told);
  first = h.first;
  least = h.least;
  most = h.most;
  head = h.head;
  halted = h.halted;
  waits = h.waits;
  takes = h.takes;
  content = h.content;
  left = λ i now. absurd (untold (told_now m i lawful now));
  sure = λ none. sure;
  may = never_besides other.doubt m sure;
}

-- ---- another site on the same disks

-- the same disks of another site that lay on as many of them
lies_again : (n k : Node) (m was : Meaning) → LiesRaw k m → k.disks ≡ n.disks → k.blocks ≡ n.blocks → LiesRaw n was → LiesRaw n m
lies_again n k m was h disks blocks h0 = record {
  units = h.units ∙ disks;
  size = sized;
  can = h0.can;
  few = h0.few;
  laid = record {
    large = omega (arith, h0.laid.large, same 0 (omega (arith, h0.can.some)));
    ring_is = h0.laid.ring_is ∙ ap ring_of (sym (same 0 (omega (arith, h0.can.some))));
    some = h0.laid.some;
    few = h0.laid.few;
    count = h0.laid.count;
    named = h0.laid.named;
    each = λ v there.
        let inside : v < n.disks - 2 = omega (arith, there, h0.laid.count, length-values_from (λ (j : ℕ). j) 1 (n.disks - 2)) in
        let at : unit_of (raw_units n.disks).vols v ≡ 1 + v = slice_index-values_from 1 (n.disks - 2) v inside in
        h0.laid.each v there ∙ sym (same (unit_of (raw_units n.disks).vols v) (omega (arith, at, inside, h0.can.some)));
    none = h0.laid.none;
  };
}
  where
    sized : (u : ℕ) → u < n.disks → m.size u ≡ n.blocks
    sized u there = h.size u (omega (arith, there, disks)) ∙ blocks

    same : (u : ℕ) → u < n.disks → m.size u ≡ was.size u
    same u there = sized u there ∙ sym (h0.size u there)

-- the disks of a site that is down are those of any other that was down on as many of them
down_again : (b other : KeptBeside) (n k : Node) (m was : Meaning) → (IsTrue m.tells → ⊥) → IsDownAt b k m → k.disks ≡ n.disks → k.blocks ≡ n.blocks → IsDownAt other n was → IsDownAt other n m
down_again b other n k m was untold h disks blocks h0 = record {
  state = h0.state;
  unfused = h0.unfused;
  down = h.down;
  unarmed = h.unarmed;
  sure = h0.sure;
  raw = h0.raw;
  lies = lies_again n k m was h.lies disks blocks h0.lies;
  low = h0.low;
  logged = h0.logged;
  begun = λ told. absurd (untold told);
  left = λ told. absurd (untold told);
}

-- disks that came up, and crashed since, are those of a bare site
pub bare_withdrawn : (n k : Node) (m last : Meaning) → Lawful last → LiesRaw k m → Revived m last → IsBareOf n k → (IsTrue last.tells → ⊥) → IsCleanAt n last
bare_withdrawn n k m last lawful lies rose of untold = record {
  bare = record {
    is = of.is;
    fitted = record {
      units = rose.units ∙ lies.units ∙ of.disks;
      size = λ u there. rose.size u ∙ lies.size u (omega (arith, there, of.disks)) ∙ of.blocks;
      up = rose.up;
    };
    unarmed = rose.unarmed;
    few = of.few;
    some = of.some;
    blank = λ u b past below inside. none u b;
  };
  front = λ b below. none 0 b;
}
  where
    none : (u b : ℕ) → Keeps last u b zero_block
    none u b = record { only = λ v left. absurd (lawful.none (not_true last.tells untold) u b v left) }

-- ---- disk sets

module _ {R : Type 0} {g : Ghosts R} (lawful : (r : R) → Lawful (g.meaning r)) where
  -- whatever links its log keeps, and whoever feeds it
  pub any_links : (b other : KeptBeside) (n : Node) (feeder : ℕ) (e : DiskSet R g) → (IsToldAt e → ⊥) → other.doubt ≡ None → n.state ≡ IsUp → n.group ≡ None → SiteStands b n e
      → SiteStands other (record n { fed_by = feeder }) e
  any_links b other n feeder (Bare rack) untold sure up apart h = let e : IsUp ≡ IsBare = sym up ∙ ap (λ (x : Node). x.state) h.bare.is in absurd (cc)
  any_links b other n feeder (Spoiled rack) untold sure up apart h = let e : IsUp ≡ IsBare = sym up ∙ ap (λ (x : Node). x.state) h.is in absurd (cc)
  any_links b other n feeder (Up rvg) untold sure up apart h = (raw_alone other n sure apart, up_beside b other n feeder rvg.core (g.meaning rvg.shelf) (lawful rvg.shelf) untold sure h.1)
  any_links b other n feeder (Receives s) untold sure up apart h = (raw_alone other n sure apart, receiver_beside b other n feeder s.rvg.core s.waiting (g.meaning s.rvg.shelf) (lawful s.rvg.shelf) untold sure h.1)
  any_links b other n feeder (Down rack) untold sure up apart h = let e : IsUp ≡ IsDown = sym up ∙ h.state in absurd (cc)
  any_links b other n feeder (OfGroup s) untold sure up apart h = let e : IsBare ≡ IsUp = sym (apart_bare b n s h (none_apart n apart)) ∙ up in absurd (cc)
  any_links b other n feeder (Over s) untold sure up apart h = absurd (h.0.0 apart)
  any_links b other n feeder Gone untold sure up apart h = absurd h

module _ {R : Type 0} {g : Ghosts R} where
  -- a site that is down again is any that was down on them
  pub any_down : (b other : KeptBeside) (n k : Node) (before after : DiskSet R g) → (IsToldAt after → ⊥) → n.state ≡ IsDown → k.state ≡ IsDown → k.disks ≡ n.disks → k.blocks ≡ n.blocks
      → n.group ≡ None → k.group ≡ None → SiteStands other n before → SiteStands b k after → SiteStands other n after
  any_down b other n k before (Down rack) untold state up disks blocks apart apart_too h0 h = by_before before h0
    where
      by_before : (e : DiskSet R g) → SiteStands other n e → IsDownAt other n (g.meaning rack)
      by_before (Down was) h0 = down_again b other n k (g.meaning rack) (g.meaning was) untold h disks blocks h0
      by_before (Bare was) h0 = let e : IsBare ≡ IsDown = sym (ap (λ (x : Node). x.state) h0.bare.is) ∙ state in absurd (cc)
      by_before (Spoiled was) h0 = let e : IsBare ≡ IsDown = sym (ap (λ (x : Node). x.state) h0.is) ∙ state in absurd (cc)
      by_before (Up rvg) h0 = let e : IsUp ≡ IsDown = sym h0.1.state ∙ state in absurd (cc)
      by_before (Receives s) h0 = let e : IsUp ≡ IsDown = sym h0.1.state ∙ state in absurd (cc)
      by_before (OfGroup s) h0 = let e : IsBare ≡ IsDown = sym (apart_bare other n s h0 (none_apart n apart)) ∙ state in absurd (cc)
      by_before (Over s) h0 = absurd (h0.0.0 apart)
      by_before Gone h0 = absurd h0
  any_down b other n k before (Bare rack) untold state down disks blocks apart apart_too h0 h = let e : IsBare ≡ IsDown = sym (ap (λ (x : Node). x.state) h.bare.is) ∙ down in absurd (cc)
  any_down b other n k before (Spoiled rack) untold state down disks blocks apart apart_too h0 h = let e : IsBare ≡ IsDown = sym (ap (λ (x : Node). x.state) h.is) ∙ down in absurd (cc)
  any_down b other n k before (Up rvg) untold state down disks blocks apart apart_too h0 h = let e : IsUp ≡ IsDown = sym h.1.state ∙ down in absurd (cc)
  any_down b other n k before (Receives s) untold state down disks blocks apart apart_too h0 h = let e : IsUp ≡ IsDown = sym h.1.state ∙ down in absurd (cc)
  any_down b other n k before (OfGroup s) untold state down disks blocks apart apart_too h0 h = let e : IsBare ≡ IsDown = sym (apart_bare b k s h (none_apart k apart_too)) ∙ down in absurd (cc)
  any_down b other n k before (Over s) untold state down disks blocks apart apart_too h0 h = absurd (h.0.0 apart_too)
  any_down b other n k before Gone untold state down disks blocks apart apart_too h0 h = absurd h
