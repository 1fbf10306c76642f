-- Which regions the log in memory has behind marks, and behind marks that were taken off.
use Rattle.std.proofs.Common.{◌≡◌, ◌⊎◌, ◌∙◌, inl, inr, ℕ, ◌-◌, ◌<◌, ◌≤◌, Bool, true, false, Option, Some, None, refl, sym, ap, arith}
use Rattle.std.specs.Prelude.{leb, if◌then◌else◌}
use Rattle.std.proofs.lemmas.Bool.{and_from, and_parts, cases_lt, le-leb, leb-true}
use Rattle.vx_bitmap.specs.Bits.{is_among}
use Rattle.vx_bitmap.specs.Maps.{regions_mapped}
use Rattle.vx_config.specs.Checks.{blocks_of as blocks_in, is_sound}
use Rattle.vx_config.specs.declared.config.Config.{Config}
use Rattle.vx_disk.specs.Shelf.{Meaning}
use Rattle.vx_drl.specs.Dirty.{Dirty, is_dirty}
use Rattle.vx_drl.specs.declared.marks.TheConstants.{MOST_HELD}
use Rattle.vx_logs.specs.Dirtying.{DrlEnds}
use Rattle.vx_logs.specs.Held.{LogsFit}
use Rattle.vx_logs.specs.declared.logs.Logs.{Logs}
use Rattle.vx_model.specs.Sizes.{regions_of as regions_in}
use Rattle.vx_volume.specs.Plexes.{DisksFit}
use Rattle.vx_grouplogs.specs.Clearing.{DrlEnding}
use Rattle.vx_grouplogs.specs.Marking.{HoldsMany, MarksFewer, MarksOnly, NoMarks, dirty_or}
use Rattle.vx_grouplogs.proofs.CoverLemmas.{region_low}

-- ---- one region

only_of : (t old new : Bool) → new ≡ (if t then true else old) → new ≡ true → (old ≡ true) ⊎ (t ≡ true)
only_of true old new is on = inr refl
only_of false old new is on = inl (sym is ∙ on)

fewer_of : (t old new : Bool) → new ≡ (if t then false else old) → new ≡ true → old ≡ true
fewer_of true old new is on = absurd (let clash : false ≡ true = sym is ∙ on in cc)
fewer_of false old new is on = sym is ∙ on

none_of : (t old new : Bool) → new ≡ (if t then false else old) → t ≡ true → new ≡ false
none_of true old new is at = is
none_of false old new is at = absurd (let clash : false ≡ true = at in cc)

never_true : {A : Type 0} → false ≡ true → A
never_true is = absurd cc

-- ---- no log behind

pub gone_only : (n first last : ℕ) (l l' : Logs) → l'.drl ≡ None → MarksOnly n first last l l'
gone_only n first last l l' none = record { each = λ r lt is. never_true (sym (ap (λ (o : Option Dirty). dirty_or o r) none) ∙ is) }

pub gone_fewer : (n : ℕ) (l l' : Logs) → l'.drl ≡ None → MarksFewer n l l'
gone_fewer n l l' none = record { each = λ r lt is. never_true (sym (ap (λ (o : Option Dirty). dirty_or o r) none) ∙ is) }

-- ---- a log that fits

module _ (c : Config) (sound : is_sound c ≡ true) (v : ℕ) (some : 0 < blocks_in c.volumes v) (l : Logs) (fits : LogsFit c v l) (m : Meaning) (fit : DisksFit c.disks m) where
  abbrev count : ℕ
  count = regions_in (blocks_in c.volumes v)

  low : (d : Dirty) → l.drl ≡ Some d → (r : ℕ) → r < count → r < regions_mapped d.map
  low d is r lt = region_low c sound v some l fits m fit d (fits.drl d is) r lt

  pub marks_only : (first last : ℕ) (lost : Bool) (l' : Logs) (a b : Meaning) → DrlEnds first last lost l.drl l'.drl a b → MarksOnly count first last l l'
  marks_only first last lost l' a b ends = record { each = λ r lt is. by l.drl l'.drl refl ends r lt is }
    where
      by : (o q : Option Dirty) → l.drl ≡ o → DrlEnds first last lost o q a b → (r : ℕ) → r < count → dirty_or q r ≡ true → (dirty_or o r ≡ true) ⊎ ((first ≤ r) × (r ≤ last))
      by None None at ends r lt is = never_true is
      by None (Some e) at ends r lt is = absurd ends
      by (Some d) None at ends r lt is = never_true is
      by (Some d) (Some e) at ends r lt is = elim (only_of (is_among first last r) (is_dirty d r) (is_dirty e r) (ends.1.marks.each r (low d at r lt)) is) [
        | inl was ↦ inl was
        | inr among ↦ (let parts = and_parts (leb first r) (leb r last) among in inr (leb-true first r parts.0, leb-true r last parts.1))
      ]

  module _ (gone : Bool) (l' : Logs) (a b : Meaning) (ends : DrlEnding gone l.drl l'.drl a b) where
    pub marks_fewer : MarksFewer count l l'
    marks_fewer = record { each = λ r lt is. by l.drl l'.drl refl ends r lt is }
      where
        by : (o q : Option Dirty) → l.drl ≡ o → DrlEnding gone o q a b → (r : ℕ) → r < count → dirty_or q r ≡ true → dirty_or o r ≡ true
        by None None at ends r lt is = is
        by None (Some e) at ends r lt is = absurd ends
        by (Some d) None at ends r lt is = never_true is
        by (Some d) (Some e) at ends r lt is = elim (cases_lt MOST_HELD d.held) [
          | inl many ↦ fewer_of (is_among 0 (d.regions - 1) r) (is_dirty d r) (is_dirty e r) ((ends.1.none many).each r (low d at r lt)) is
          | inr few ↦ sym (ap (λ (g : Dirty). is_dirty g r) (ends.1.few few)) ∙ is
        ]

    pub marks_off : HoldsMany l.drl → NoMarks count l'
    marks_off many = record { each = λ r lt. by l.drl l'.drl refl ends many r lt }
      where
        by : (o q : Option Dirty) → l.drl ≡ o → DrlEnding gone o q a b → HoldsMany o → (r : ℕ) → r < count → dirty_or q r ≡ false
        by None None at ends many r lt = refl
        by None (Some e) at ends many r lt = absurd ends
        by (Some d) None at ends many r lt = refl
        by (Some d) (Some e) at ends many r lt =
            let regions = (fits.drl d at).regions in
            none_of (is_among 0 (d.regions - 1) r) (is_dirty d r) (is_dirty e r) ((ends.1.none many).each r (low d at r lt)) (and_from (leb 0 r) (leb r (d.regions - 1)) (le-leb 0 r (omega arith)) (le-leb r (d.regions - 1) (omega (arith, lt, regions))))
