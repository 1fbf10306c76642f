-- The first commit of a group, over disks without headers.
use Rattle.std.proofs.Common.{◌≡◌, inl, inr, ℕ, true, Option, Some, None, List, Result, Ok, Err, refl, ap, sym, ◌∙◌}
use Rattle.vx_disk.specs.Shelf.{Lawful, Meaning}
use Rattle.vx_copyfmt.specs.Areas.{header_of}
use Rattle.vx_copyfmt.specs.Commits.{target_of}
use Rattle.vx_copyfmt.specs.declared.area.AreaHeader.{AreaHeader}
use Rattle.vx_model.specs.declared.no.No.{No}
use Rattle.vx_config.specs.Checks.{is_sound}
use Rattle.vx_config.specs.declared.config.Config.{Config}
use Rattle.vx_copies.specs.Bodies.{is_wanted}
use Rattle.vx_copies.specs.Commits.{Begins, CommitEnds, Done, HaveLabels, IsTry, StayFit}
use Rattle.vx_copyio.specs.Settling.{AllCleared}
use Rattle.vx_kept.specs.Choice.{chosen}
use Rattle.vx_kept.specs.Commits.{FirstEnds, Taken}
use Rattle.vx_kept.specs.Keeping.{AllOn, Base, MayBeNext, IsTidy}
use Rattle.vx_kept.specs.Trusts.{TrustFirst}
use Rattle.vx_kept.proofs.Trusting.{trust_first}
use Rattle.vx_kept.proofs.Chosen.{same_extends}
use Rattle.vx_kept.proofs.Committed.{base_done, take_on}
use Rattle.vx_kept.proofs.Narrower.{sound_chosen}
use Rattle.vx_kept.proofs.StateLemmas.{same_shape}

none_some : (v : List ℕ) (h : AreaHeader) → header_of v ≡ None → header_of v ≡ Some h → ⊥
none_some v h none some = let clash : None ≡ Some h = sym none ∙ some in cc

-- disks without headers are ready for any serial
pub cleared_Base : (c : Config) (m : Meaning) → AllCleared m.units m → HaveLabels m → Base c m
cleared_Base c m cleared labels = record {
  below = record { each = λ u lt a v h is left head. absurd (none_some v h ((cleared.each u lt).none a v is left) head) };
  counts = λ u lt d a h is among top. absurd (none_some (d a) h ((cleared.each u lt).none a (d a) is (among a)) top.head);
  labels = labels;
}

to_first : (v w : List ℕ) → header_of v ≡ None → header_of w ≡ None → target_of (header_of v) (header_of w) ≡ target_of None None
to_first v w one two = ap (λ (o : Option AreaHeader). target_of o (header_of w)) one ∙ ap (target_of None) two

pub cleared_tidy : (c : Config) (m : Meaning) → AllCleared m.units m → HaveLabels m → IsTidy c m
cleared_tidy c m cleared labels = record {
  each = λ u held. record {
    fit = record { counts = (cleared_Base c m cleared labels).counts u held.below; below = (cleared_Base c m cleared labels).below.each u held.below };
    goes = λ v w x y in_v in_w in_x in_y.
        let off = cleared.each u held.below in
        to_first v w (off.none 1 v (inl refl) in_v) (off.none 129 w (inr refl) in_w) ∙ sym (to_first x y (off.none 1 x (inl refl) in_x) (off.none 129 y (inr refl) in_y));
  };
}

-- a configuration follows itself
pub same_follows : (c : Config) → is_sound c ≡ true → AllOn c → MayBeNext c c
same_follows c sound on = record { shape = same_extends c c (same_shape c); serial = refl; narrows = λ v p lt is. on.each v p is; some = λ v lt. (chosen c v, sound_chosen c sound v lt) }

pub first_done : (good : ℕ) (c d : Config) (old new : Meaning) → Lawful old → Lawful new → AllCleared old.units old → HaveLabels old → is_sound c ≡ true → AllOn c
    → Begins (IsTry c d.serial old new) c old new → StayFit c d.serial old new → Done good c d old new → is_wanted new.units new.size d ≡ true → Taken c c d old new
first_done good c d old new before after cleared labels sound on begins fit done wanted =
    base_done good c c d old new before after (cleared_Base c old cleared labels) (cleared_tidy c old cleared labels) (same_follows c sound on) begins fit on done wanted

pub first_ends : {T : Type 0} (good : ℕ) (c d : Config) (old new : Meaning) → Lawful old → Lawful new → AllCleared old.units old → HaveLabels old → is_sound c ≡ true → AllOn c
    → Begins (IsTry c d.serial old new) c old new → StayFit c d.serial old new → is_wanted new.units new.size d ≡ true → (r : Result T No) → CommitEnds good c d old new r → FirstEnds good c d old new r
first_ends good c d old new before after cleared labels sound on begins fit wanted (Ok x) done = (first_done good c d old new before after cleared labels sound on begins fit done wanted, take_on c d done.grown.volumes on)
first_ends good c d old new before after cleared labels sound on begins fit wanted (Err why) refused = refused.cause

pub first_trusts : {T : Type 0} (good : ℕ) (c d : Config) (old new : Meaning) → AllCleared old.units old → HaveLabels old → (r : Result T No) → CommitEnds good c d old new r → TrustFirst d new r
first_trusts good c d old new cleared labels (Ok x) done = trust_first good c d old new (cleared_Base c old cleared labels) done
first_trusts good c d old new cleared labels (Err why) refused = tt
