-- The commit of a configuration beside the one in memory.
use Rattle.std.proofs.Common.{◌≡◌, ℕ, true, Result, Ok, Err, refl, ap}
use Rattle.vx_disk.specs.Shelf.{Lawful, Meaning}
use Rattle.vx_model.specs.declared.no.No.{No}
use Rattle.vx_config.specs.declared.config.Config.{Config}
use Rattle.vx_copies.specs.Bodies.{is_wanted}
use Rattle.vx_copies.specs.Commits.{Begins, CommitEnds, IsTry, Refused, StayFit}
use Rattle.vx_kept.specs.Commits.{Member, MissedCommit, NextEnds}
use Rattle.vx_kept.specs.Keeping.{AllOn, MayBeNext, IsTidy, Kept}
use Rattle.vx_kept.proofs.Committed.{take_done, take_on, take_refused}

module _ (good : ℕ) (c a d : Config) (old new : Meaning) (before : Lawful old) (after : Lawful new) (kept : Kept c (Member good old) old) (tidy : IsTidy a old) (follows : MayBeNext c a) (on : AllOn a)
    (begins : Begins (IsTry a d.serial old new) a old new) (fit : StayFit a d.serial old new) (wanted : is_wanted new.units new.size d ≡ true) where
  missed : (why : No) → Refused good a d old new why → MissedCommit good c a d old new why
  missed why refused =
      let left = take_refused good c a d old new before after kept tidy follows begins fit (record { serial = d.serial; site = c.site; disks = c.disks; volumes = c.volumes; rvg = c.rvg }) why refused refl in
      record {
        kept = left.kept;
        volumes = ap (λ (x : Config). x.volumes) refused.kept;
        disks = ap (λ (x : Config). x.disks) refused.kept;
        later = left.later;
        cause = refused.cause;
      }

  pub next_ends : {T : Type 0} (r : Result T No) → CommitEnds good a d old new r → NextEnds good c a d old new r
  next_ends (Ok x) done = take_done good c a d old new before after kept tidy follows begins fit on done wanted
  next_ends (Err why) refused = missed why refused

pub next_on : {T : Type 0} (good : ℕ) (a d : Config) (old new : Meaning) → AllOn a → (r : Result T No) → CommitEnds good a d old new r → AllOn d
next_on good a d old new on (Ok x) done = take_on a d done.grown.volumes on
next_on good a d old new on (Err why) refused = take_on a d (ap (λ (x : Config). x.volumes) refused.kept) on
