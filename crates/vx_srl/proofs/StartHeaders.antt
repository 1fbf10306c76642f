-- The header with which a start begins.
use Rattle.std.proofs.Common.{◌≡◌, inl, inr, ⊎_elim, ℕ, ◌-◌, ◌<◌, ◌≤◌, Bool, true, List, IsTrue, refl, sym, ◌∙◌, subst, arith}
use Rattle.vx_disk.specs.Shelf.{Meaning, Nothing, Goes}
use Rattle.vx_ringlog.specs.Cells.{RingImage as Kinds}
use Rattle.vx_ringlog.specs.Chain.{IsGreaterTop}
use Rattle.vx_ringlog.specs.Heads.{HeaderStands}
use Rattle.vx_ringio.specs.Classes.{class_of, is_of_ring}
use Rattle.vx_ringio.specs.Reading.{ReadsAs, IsTopSeen, SeesTop, DigestsDiffer, TopIsOfRing}
use Rattle.vx_ringio.specs.declared.top.TopSeen.{TopSeen}
use Rattle.vx_ringio.specs.declared.top.TopSeen.TheVariants as top
use Rattle.vx_srlfmt.specs.Headers.{CanSpellHeader}
use Rattle.vx_srlfmt.specs.Kinds.{Kind, Top}
use Rattle.vx_srlfmt.specs.declared.header.Header.{Header}
use Rattle.vx_srl.specs.Damages.{HeadersDamaged, SeesNoTop}
use Rattle.vx_srl.specs.Standings.{IsNotAbove, IsBelow, IsNoHeader, IsPicked, IsStanding, NoneCounts}
use Rattle.vx_srl.specs.Starts.{NoHeader}
use Rattle.vx_srl.specs.declared.start.Picked.TheVariants as picked
use Rattle.vx_srl.specs.declared.start.Standing.{Standing}

-- a read behind another one
pub sees_before : (unit ring b : ℕ) (old mid : Meaning) (seen : TopSeen) → Goes Nothing old mid → (IsTrue mid.down → ⊥) → SeesTop unit ring b mid seen → SeesTop unit ring b old seen
sees_before unit ring b old mid seen goes up sees = record {
  bytes = sees.bytes;
  read = ⊎_elim (λ or. ⊎_elim (λ was. was) (λ no. absurd no) or) (λ down. absurd (up down)) (goes.reads unit b sees.bytes sees.read);
  is = sees.is;
}

-- what is seen is what the block is
pub record IsSeenAt (v : Kind) (seen : TopSeen) : Type 0 where
  pub valid : (h : Header) → seen ≡ top.Valid h → v ≡ Top h
  pub only : (h : Header) → v ≡ Top h → seen ≡ top.Valid h

same_top : (v : Kind) (g h : Header) → v ≡ Top g → v ≡ Top h → top.Valid g ≡ top.Valid h
same_top v g h one two = cc

valid_same : (g h : Header) → top.Valid g ≡ top.Valid h → Top g ≡ Top h
valid_same g h is = cc

seen_at : (ring : ℕ) (bytes : List ℕ) (seen : TopSeen) → IsTopSeen ring bytes seen → IsSeenAt (class_of ring bytes) seen
seen_at ring bytes (top.Valid g) is = record { valid = λ h same. is ∙ valid_same g h same; only = λ h there. same_top (class_of ring bytes) g h is there }
seen_at ring bytes (top.Broken stored computed) is = record { valid = λ h same. absurd (cc); only = λ h there. absurd (is.0 h there) }
seen_at ring bytes top.Other is = record { valid = λ h same. absurd (cc); only = λ h there. absurd (is.0 h there) }

pub sees_kind : (unit ring b : ℕ) (m : Meaning) (seen : TopSeen) (c : Kinds) → b < 2 → SeesTop unit ring b m seen → ReadsAs unit ring c m → IsSeenAt (c b) seen
sees_kind unit ring b m seen c low sees reads =
    subst (λ (v : Kind). IsSeenAt v seen) (reads.each b sees.bytes (omega arith) sees.read) (seen_at ring sees.bytes seen sees.is)

valid_below : (seen : TopSeen) (g h : Header) → seen ≡ top.Valid g → IsBelow seen h → g.stamp < h.stamp
valid_below seen g h is below = subst (λ (s : TopSeen). IsBelow s h) is below

valid_not_above : (seen : TopSeen) (g h : Header) → seen ≡ top.Valid g → IsNotAbove seen h → g.stamp ≤ h.stamp
valid_not_above seen g h is above = subst (λ (s : TopSeen). IsNotAbove s h) is above

same_header : (v : Kind) (g h : Header) → v ≡ Top g → v ≡ Top h → g ≡ h
same_header v g h one two = cc

-- ---- the header that counts

module _ (c : Kinds) (first second : TopSeen) (at_first : IsSeenAt (c 0) first) (at_second : IsSeenAt (c 1) second) where
  picked_first : (g h : Header) → first ≡ top.Valid g → IsBelow second g → IsGreaterTop c h → (g ≡ h) × HeaderStands c 0 1 h
  picked_first g h is below (inl counts) =
      (same_header (c 0) g h (at_first.valid g is) counts.0, record { slots = inl (refl, refl); top = counts.0; less = counts.1 })
  picked_first g h is below (inr counts) =
      let one : g.stamp < h.stamp = counts.1 g (at_first.valid g is) in
      let two : h.stamp < g.stamp = valid_below second h g (at_second.only h counts.0) below in
      absurd (omega arith)

  picked_second : (g h : Header) → second ≡ top.Valid g → IsNotAbove first g → IsGreaterTop c h → (g ≡ h) × HeaderStands c 1 0 h
  picked_second g h is above (inl counts) =
      let one : g.stamp < h.stamp = counts.1 g (at_second.valid g is) in
      let two : h.stamp ≤ g.stamp = valid_not_above first h g (at_first.only h counts.0) above in
      absurd (omega arith)
  picked_second g h is above (inr counts) =
      (same_header (c 1) g h (at_second.valid g is) counts.0, record { slots = inr (refl, refl); top = counts.0; less = counts.1 })

  none_picked : IsNoHeader first → IsNoHeader second → (h : Header) → IsGreaterTop c h → ⊥
  none_picked one two h (inl counts) = one h (at_first.only h counts.0)
  none_picked one two h (inr counts) = two h (at_second.only h counts.0)

stands_at : (c : Kinds) (b : ℕ) (g h : Header) (block : ℕ) → block ≡ b → (g ≡ h) × HeaderStands c b (1 - b) h → (g ≡ h) × HeaderStands c block (1 - block) h
stands_at c b g h block is there = subst (λ (n : ℕ). (g ≡ h) × HeaderStands c n (1 - n) h) (sym is) there

-- a block that is seen as no header
no_top_in : (ring : ℕ) (bytes : List ℕ) (seen : TopSeen) → IsNoHeader seen → IsTopSeen ring bytes seen → (h : Header) → class_of ring bytes ≡ Top h → ⊥
no_top_in ring bytes (top.Valid g) none is h at = none g refl
no_top_in ring bytes (top.Broken stored computed) none is h at = is.0 h at
no_top_in ring bytes top.Other none is h at = is.0 h at

-- of what two reads saw
module _ (unit ring : ℕ) (old mid : Meaning) (first second : TopSeen) (sees_first : IsTrue old.tells → SeesTop unit ring 0 old first) (sees_second : IsTrue mid.tells → SeesTop unit ring 1 mid second)
    (goes : Goes Nothing old mid) (up : IsTrue mid.down → ⊥) where
  sees_second_before : IsTrue old.tells → SeesTop unit ring 1 old second
  sees_second_before tells = sees_before unit ring 1 old mid second goes up (sees_second (subst (λ (t : Bool). IsTrue t) (sym goes.tells) tells))

  pub none_found : IsNoHeader first → IsNoHeader second → NoneCounts unit ring old
  none_found one two c h reads counts =
      none_picked c first second (sees_kind unit ring 0 old first c (omega arith) (sees_first reads.tells) reads) (sees_kind unit ring 1 old second c (omega arith) (sees_second_before reads.tells) reads) one two h counts

  pub no_header : first ≡ top.Other → second ≡ top.Other → IsTrue old.tells → NoHeader unit ring old
  no_header one two tells = record {
    first = subst (λ (s : TopSeen). SeesTop unit ring 0 old s) one (sees_first tells);
    second = subst (λ (s : TopSeen). SeesTop unit ring 1 old s) two (sees_second_before tells);
  }

  pub found : (s : Standing) → IsPicked first second (picked.Stands s) → TopIsOfRing ring first → TopIsOfRing ring second → IsStanding unit ring s old
  found s (inl is) one two =
      let of : CanSpellHeader s.header × (is_of_ring ring s.header ≡ true) = subst (λ (x : TopSeen). TopIsOfRing ring x) is.1 one in
      record {
        block = omega (arith, is.0);
        spell = of.0;
        of_ring = of.1;
        sees = λ tells. subst (λ (b : ℕ). SeesTop unit ring b old (top.Valid s.header)) (sym is.0) (subst (λ (x : TopSeen). SeesTop unit ring 0 old x) is.1 (sees_first tells));
        counts = λ c h reads counts. stands_at c 0 s.header h s.block is.0
            (picked_first c first second (sees_kind unit ring 0 old first c (omega arith) (sees_first reads.tells) reads) (sees_kind unit ring 1 old second c (omega arith) (sees_second_before reads.tells) reads)
            s.header h is.1 is.2 counts);
      }
  found s (inr is) one two =
      let of : CanSpellHeader s.header × (is_of_ring ring s.header ≡ true) = subst (λ (x : TopSeen). TopIsOfRing ring x) is.1 two in
      record {
        block = omega (arith, is.0);
        spell = of.0;
        of_ring = of.1;
        sees = λ tells. subst (λ (b : ℕ). SeesTop unit ring b old (top.Valid s.header)) (sym is.0) (subst (λ (x : TopSeen). SeesTop unit ring 1 old x) is.1 (sees_second_before tells));
        counts = λ c h reads counts. stands_at c 1 s.header h s.block is.0
            (picked_second c first second (sees_kind unit ring 0 old first c (omega arith) (sees_first reads.tells) reads) (sees_kind unit ring 1 old second c (omega arith) (sees_second_before reads.tells) reads)
            s.header h is.1 is.2 counts);
      }

  broken_digests : (seen : TopSeen) (stored computed : List ℕ) → seen ≡ top.Broken stored computed → DigestsDiffer seen → stored ≡ computed → ⊥
  broken_digests seen stored computed is differ = subst DigestsDiffer is differ

  no_top : (b : ℕ) (seen : TopSeen) → IsNoHeader seen → SeesTop unit ring b old seen → SeesNoTop unit ring b old
  no_top b seen none sees = record { bytes = sees.bytes; read = sees.read; none = no_top_in ring sees.bytes seen none sees.is }

  damaged_by : (block : ℕ) (stored computed : List ℕ) → IsPicked first second (picked.Broken block stored computed) → IsTrue old.tells → HeadersDamaged unit ring block stored computed old
  damaged_by block stored computed is tells =
      ⊎_elim
      (λ low. inl (low.0, subst (λ (s : TopSeen). SeesTop unit ring 0 old s) low.1 (sees_first tells), no_top 1 second is.1 (sees_second_before tells)))
      (λ high. inr (high.0, subst (λ (s : TopSeen). SeesTop unit ring 0 old s) high.1 (sees_first tells), subst (λ (s : TopSeen). SeesTop unit ring 1 old s) high.2 (sees_second_before tells)))
      is.2

  pub broken : (block : ℕ) (stored computed : List ℕ) → IsPicked first second (picked.Broken block stored computed) → DigestsDiffer first → DigestsDiffer second
      → (stored ≡ computed → ⊥) × (IsTrue old.tells → HeadersDamaged unit ring block stored computed old) × NoneCounts unit ring old
  broken block stored computed is one two = (
    ⊎_elim (λ low. broken_digests first stored computed low.1 one) (λ high. broken_digests second stored computed high.2 two) is.2,
    damaged_by block stored computed is,
    none_found is.0 is.1,
  )
