-- Images of the volumes of a group behind calls that leave those of a replicated volume group alone: block by block what these may have is what they might have before.
use Rattle.std.proofs.Common.{◌≡◌, ◌∙◌, inl, ⊎_elim, ℕ, ◌+◌, ◌<◌, Bool, true, false, List, length, drop, take, Option, Some, None, MatchOption, IsTrue, ap, arith, subst, sym, refl}
use Rattle.std.specs.Prelude.{◌||◌, ◌==◌, if◌then◌else◌, nat_lt}
use Rattle.std.specs.List.{list_any}
use Rattle.std.proofs.lemmas.Bool.{cases_lt, eq-eqb, eqb-true}
use Rattle.vx_blockwise.proofs.MixLemmas.{told_each}
use Rattle.vx_disk.specs.Moves.{Blocks}
use Rattle.vx_disk.specs.Shelf.{Each, Image, Lawful, Meaning}
use Rattle.vx_events.specs.RvgNotes.{inside_of}
use Rattle.vx_grouped.specs.Volumes.{VolumesGo}
use Rattle.vx_history.specs.World.{Node}
use Rattle.vx_model.specs.Content.{Content}
use Rattle.vx_model.specs.declared.state.State.{State}
use Rattle.vx_model.specs.declared.units.Units.{Units}
use Rattle.vx_model.proofs.Contents.{folded_size}
use Rattle.vx_overlay.specs.Writes.{newest_of}
use Rattle.vx_ringio.specs.Classes.{class_of}
use Rattle.vx_ringlog.specs.Chain.{Recovers}
use Rattle.vx_rvg.specs.Holdings.{Holding}
use Rattle.vx_rvg.specs.Stands.{FoundGroup}
use Rattle.vx_rvg.specs.Views.{unit_of}
use Rattle.vx_srlfmt.specs.Kinds.{Other}
use Rattle.vx_diskset.specs.Holds.{HasSite, HasWrites, KeptBeside}
use Rattle.vx_diskset.specs.Layouts.{IsLaid, units_of}
use Rattle.vx_diskset.proofs.BesideLemmas.{site_sure}
use Rattle.vx_diskset.proofs.Narrowing.{is_named, named_in}
use Rattle.vx_diskset.proofs.InsideUnits.{log_inside, or_right, vol_inside}
use Rattle.vx_diskset.proofs.Rewriting.{place_among}

-- ---- the units of a replicated volume group

maps_inside : (u : Units) → inside_of u u.maps ≡ true
maps_inside u =
    or_right (u.maps == u.srl) ((u.maps == u.maps) || list_any (λ x. x == u.maps) u.vols) (ap (λ (t : Bool). t || list_any (λ x. x == u.maps) u.vols) (eq-eqb u.maps u.maps refl))

-- blocks of none of them
module _ (u : Units) (mine : Blocks) (log : (b : ℕ) → mine u.srl b → ⊥) (maps : (b : ℕ) → mine u.maps b → ⊥) (vols : (v b : ℕ) → v < length u.vols → mine (unit_of u.vols v) b → ⊥) where
  aside_by : (k b : ℕ) (s t : Bool) → (k == u.srl) ≡ s → (k == u.maps) ≡ t → (s || (t || is_named u.vols k)) ≡ true → mine k b → ⊥
  aside_by k b true t first second is here = log b (subst (λ (w : ℕ). mine w b) (eqb-true k u.srl first) here)
  aside_by k b false true first second is here = maps b (subst (λ (w : ℕ). mine w b) (eqb-true k u.maps second) here)
  aside_by k b false false first second is here =
      let among = named_in u.vols k is in
      vols among.0 b among.1 (subst (λ (w : ℕ). mine w b) (sym (place_among u.vols k among)) here)

  pub aside_of : (k b : ℕ) → inside_of u k ≡ true → mine k b → ⊥
  aside_of k b is here = aside_by k b (k == u.srl) (k == u.maps) refl refl is here

-- ---- one image with the blocks of these units from another one

match_as : {A B : Type 0} (o : Option (List ℕ)) (Q : List ℕ → Type 0) → (A → B) → MatchOption o A Q → MatchOption o B Q
match_as (Some bytes) Q f it = it
match_as None Q f it = f it

module _ (units : Units) (i j : Image) where
  abbrev mixed : Image
  mixed = λ u b. if inside_of units u then i u b else j u b

  mixed_is : (u : ℕ) → inside_of units u ≡ true → mixed u ≡ i u
  mixed_is u is = ap (λ (t : Bool). λ (b : ℕ). if t then i u b else j u b) is

  -- an image with a replicated volume group on these units has it whatever its other blocks are
  found_mixed : (ring : ℕ) (state : State) (session stamp : ℕ) (h : Holding) → ((v b : ℕ) → b < h.content.size v → v < length units.vols) → FoundGroup units ring state session stamp mixed h → FoundGroup units ring state session stamp i h
  found_mixed ring state session stamp h there found = record {
    header = found.header;
    records = found.records;
    recovers = subst (λ (f : ℕ → List ℕ). Recovers ring (λ b. if nat_lt b (ring + 2) then class_of ring (f b) else Other) found.header found.records) (mixed_is units.srl (log_inside units)) found.recovers;
    state_is = found.state_is;
    session_is = found.session_is;
    stamp_most = found.stamp_most;
    some = found.some;
    low_is = found.low_is;
    writes_are = found.writes_are;
    place_is = found.place_is;
    content = record {
      each = λ v b low. match_as (newest_of h.content.size h.writes v b) (λ bytes. bytes ≡ h.content.block v b)
          (λ here. sym (ap (λ (f : ℕ → List ℕ). f b) (mixed_is (unit_of units.vols v) (vol_inside units v (there v b low)))) ∙ here) (found.content.each v b low);
    };
    maps = record { each = λ b bytes at. sym (ap (λ (f : ℕ → List ℕ). f b) (mixed_is units.maps (maps_inside units))) ∙ found.maps.each b bytes at };
  }

-- a site over a group
module _ (n : Node) (m : Meaning) (laid : IsLaid (units_of n) n.ring n.volumes n.base.size m) where
  -- a volume of its content is one of them
  content_there : (c : Content) → ((v : ℕ) → c.size v ≡ n.base.size v) → (v b : ℕ) → b < c.size v → v < length (units_of n).vols
  content_there c sizes v b low = ⊎_elim
      (λ is. is)
      (λ high. absurd (let many = laid.count in let none = laid.none v (omega (arith, high, many)) in let same = sizes v in omega (arith, low, none, same)))
      (cases_lt v (length (units_of n).vols))

module _ {beside : KeptBeside} (n : Node) (m : Meaning) (laid : IsLaid (units_of n) n.ring n.volumes n.base.size m) where
  writes_mixed : (i j : Image) → HasWrites beside n (mixed (units_of n) i j) → HasWrites beside n i
  writes_mixed i j has = record {
    count = has.count;
    least = has.least;
    most = has.most;
    found = record {
      held = has.found.held;
      has = has.found.has;
      needs = has.found.needs;
      found = found_mixed (units_of n) i j n.ring _ n.session _ has.found.held
          (content_there n m laid has.found.held.content (λ v. ap (λ (k : Content). k.size v) has.found.has.content ∙ folded_size n.base (drop n.safe (take has.count n.log)) v)) has.found.found;
    };
  }

  module _ (m' : Meaning) (mine : Blocks) (goes : VolumesGo mine m m') (lawful : Lawful m) (after : Lawful m') (there : (u : ℕ) → inside_of (units_of n) u ≡ true → u < m.units) (aside : (u b : ℕ) → inside_of (units_of n) u ≡ true → mine u b → ⊥)
      (closed : (i : Image) → Each m.leaves i → m.now i) (certain : beside.doubt ≡ None) (left : (i : Image) → m.now i → HasSite beside n i) (i : Image) (each : Each m'.leaves i) where
    told : IsTrue m.tells
    told = sym goes.tells ∙ told_each m' i after each

    abbrev before : Image
    before = (lawful.image told).0

    each_by : (u b : ℕ) (t : Bool) → inside_of (units_of n) u ≡ t → m.leaves u b (if t then i u b else before u b)
    each_by u b true is = ⊎_elim (λ was. was) (λ here. absurd (aside u b is here)) (goes.leaves u b (i u b) (there u is) (each u b))
    each_by u b false is = lawful.within before (lawful.image told).1 u b

    -- what a crash leaves behind the call has the site, where each mix of what it left before had it
    pub left_mixed : HasSite beside n i
    left_mixed = inl (writes_mixed i before (site_sure n (mixed (units_of n) i before) certain (left (mixed (units_of n) i before) (closed (mixed (units_of n) i before) (λ u b. each_by u b (inside_of (units_of n) u) refl)))))
