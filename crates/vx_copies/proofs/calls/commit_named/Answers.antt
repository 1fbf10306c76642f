-- `commit_named`: clauses begins, finds, wanted, ends, fit, last, calls and named.
use Rattle.std.proofs.Common.{◌≡◌, ◌+◌, ◌*◌, ◌<◌, true, Result, OnOk, IfErr, IfOk, ℕ, refl, ap, subst, sym, ◌∙◌, arith, List}
use Rattle.vx_disk.specs.Burns.{MakesCalls}
use Rattle.vx_disk.specs.Shelf.{Meaning}
use Rattle.vx_model.specs.declared.no.No.{No}
use Rattle.vx_config.specs.Table.{greatest}
use Rattle.vx_config.specs.declared.config.Config.{Config}
use Rattle.vx_config.specs.declared.entry.DiskEntry.{DiskEntry}
use Rattle.vx_copyio.specs.Putting.{KeepsUp}
use Rattle.vx_copies.specs.Bodies.{is_wanted}
use Rattle.vx_copies.specs.Commits.{Begins, CommitEnds, Finds, IsTry, NamesFailed, NamesLast, StayFit}
use Rattle.vx_copies.specs.Marks.{good_count}
use Rattle.vx_copies.proofs.Found.{begins_try, finds_try, few_refused, fits_try, is_done, restored, stays_silent, why_refused}
use Rattle.vx_copies.proofs.ManyTries.{none_yet}
use Rattle.vx_copies.proofs.OneTry.{wanted_count, wanted_same, wanted_serial}
use Rattle.vx_copies.proofs.calls.commit_named.Goals.{in-Err, in-Ok}
use Rattle.vx_copies.proofs.calls.commit_named.Goals as goal

pub returns-then-config-ge-MOST_NUMBER-clause-begins : goal.returns-then-config-ge-MOST_NUMBER-clause-begins
returns-then-config-ge-MOST_NUMBER-clause-begins g c =
    begins_try c.args.good c.args.config.now c.args.config.now (g.S.Shelf.meaning c.args.shelf.now) (g.S.Shelf.meaning c.args.shelf.now) (none_yet c.args.good c.args.config.now (g.S.Shelf.meaning c.args.shelf.now))

pub returns-then-config-ge-MOST_NUMBER-clause-finds : goal.returns-then-config-ge-MOST_NUMBER-clause-finds
returns-then-config-ge-MOST_NUMBER-clause-finds g c =
    finds_try c.args.good c.args.config.now c.args.config.now (g.S.Shelf.meaning c.args.shelf.now) (g.S.Shelf.meaning c.args.shelf.now) (none_yet c.args.good c.args.config.now (g.S.Shelf.meaning c.args.shelf.now))
    (g.met.S.Shelf.lawful c.args.shelf.now) (g.met.S.Shelf.lawful c.args.shelf.now)

pub returns-clause-wanted : goal.returns-clause-wanted
returns-clause-wanted g c =
    let old : Meaning = g.S.Shelf.meaning c.args.shelf.now in
    let new : Meaning = g.S.Shelf.meaning c.try_all.new.shelf in
    let d : Config = c.try_all.new.config in
    elim c.match-try_all.branch [
      | in-Ok w ↦ subst (λ (e : Config). is_wanted new.units new.size e ≡ true) (sym w.config-is) c.try_all.ensures.wanted
      | in-Err w ↦
          let back : c.match-try_all.config ≡ record { serial = d.serial; site = c.args.config.now.site; disks = c.args.config.now.disks; volumes = c.args.config.now.volumes; rvg = c.args.config.now.rvg } =
          restored c.args.config.now d c.match-try_all.config old new c.try_all.ensures.underway.grown
          (w.config-is ∙ ap (λ (ds : List DiskEntry). record { serial = d.serial; site = d.site; disks = ds; volumes = d.volumes; rvg = d.rvg }) c.copy-kept.ensures) in
          subst (λ (e : Config). is_wanted new.units new.size e ≡ true) (sym back)
          (wanted_same old new _ c.try_all.ensures.underway.moves.units c.try_all.ensures.underway.moves.size (wanted_serial old.units old.size c.args.config.now d.serial c.requires.wanted))
    ]

pub returns-clause-begins : goal.returns-clause-begins
returns-clause-begins g c =
    let old : Meaning = g.S.Shelf.meaning c.args.shelf.now in
    let new : Meaning = g.S.Shelf.meaning c.try_all.new.shelf in
    let begins = begins_try c.args.good c.args.config.now c.try_all.new.config old new c.try_all.ensures.underway in
    elim c.match-try_all.branch [
      | in-Ok w ↦ subst (λ (e : Config). Begins (IsTry c.args.config.now e.serial old new) c.args.config.now old new) (sym w.config-is) begins
      | in-Err w ↦ subst (λ (e : Config). Begins (IsTry c.args.config.now e.serial old new) c.args.config.now old new) (sym w.config-is) begins
    ]

pub returns-clause-finds : goal.returns-clause-finds
returns-clause-finds g c =
    let old : Meaning = g.S.Shelf.meaning c.args.shelf.now in
    let new : Meaning = g.S.Shelf.meaning c.try_all.new.shelf in
    let finds = finds_try c.args.good c.args.config.now c.try_all.new.config old new c.try_all.ensures.underway (g.met.S.Shelf.lawful c.args.shelf.now) (g.met.S.Shelf.lawful c.try_all.new.shelf) in
    elim c.match-try_all.branch [
      | in-Ok w ↦ subst (λ (e : Config). Finds c.args.good (IsTry c.args.config.now e.serial old new) c.args.config.now old new) (sym w.config-is) finds
      | in-Err w ↦ subst (λ (e : Config). Finds c.args.good (IsTry c.args.config.now e.serial old new) c.args.config.now old new) (sym w.config-is) finds
    ]

pub returns-clause-ends : goal.returns-clause-ends
returns-clause-ends g c =
    let old : Meaning = g.S.Shelf.meaning c.args.shelf.now in
    let new : Meaning = g.S.Shelf.meaning c.try_all.new.shelf in
    let a : Config = c.args.config.now in
    let d : Config = c.try_all.new.config in
    let underway = c.try_all.ensures.underway in
    let more : a.serial < greatest = omega (arith, c.if-config-ge-MOST_NUMBER.false) in
    elim c.match-try_all.branch [
      | in-Ok w ↦
          let ends = w.in-Ok.ensures.ends in
          subst (λ (e : Config). CommitEnds c.args.good a e old new c.match-try_all.result) (sym w.config-is)
          (subst (λ (r : Result ℕ No). CommitEnds c.args.good a d old new r) (sym w.result-is)
          (is_done c.args.good a d old new underway (wanted_count old.units old.size d (wanted_same new old d (sym underway.moves.units) (λ u. sym (underway.moves.size u)) c.try_all.ensures.wanted))
          (g.met.S.Shelf.lawful c.args.shelf.now) (g.met.S.Shelf.lawful c.try_all.new.shelf) ends.1 ends.0 ends.3 ends.2 ends.4))
      | in-Err w ↦
          let back : c.match-try_all.config ≡ record { serial = d.serial; site = a.site; disks = a.disks; volumes = a.volumes; rvg = a.rvg } =
          restored a d c.match-try_all.config old new underway.grown (w.config-is ∙ ap (λ (ds : List DiskEntry). record { serial = d.serial; site = d.site; disks = ds; volumes = d.volumes; rvg = d.rvg }) c.copy-kept.ensures) in
          subst (λ (e : Config). CommitEnds c.args.good a e old new c.match-try_all.result) (sym back)
          (subst (λ (r : Result ℕ No). CommitEnds c.args.good a (record { serial = d.serial; site = a.site; disks = a.disks; volumes = a.volumes; rvg = a.rvg }) old new r) (sym w.result-is) (record {
            cause = why_refused c.args.good a d old new w.in-Err.no more underway.grown underway.moves.units w.in-Err.ensures.ends;
            later = underway.serial;
            few = few_refused c.args.good a d old new w.in-Err.no w.in-Err.ensures.ends;
            kept = refl;
            below = λ below. record { each = (underway.below below).each };
            silent = stays_silent c.args.good a d old new underway (record { serial = d.serial; site = a.site; disks = a.disks; volumes = a.volumes; rvg = a.rvg }) (g.met.S.Shelf.lawful c.args.shelf.now) (g.met.S.Shelf.lawful c.try_all.new.shelf) refl;
          }))
    ]

pub returns-then-config-ge-MOST_NUMBER-clause-fit : goal.returns-then-config-ge-MOST_NUMBER-clause-fit
returns-then-config-ge-MOST_NUMBER-clause-fit g c =
    fits_try c.args.good c.args.config.now c.args.config.now (g.S.Shelf.meaning c.args.shelf.now) (g.S.Shelf.meaning c.args.shelf.now)
    (none_yet c.args.good c.args.config.now (g.S.Shelf.meaning c.args.shelf.now)) (g.met.S.Shelf.lawful c.args.shelf.now)

pub returns-clause-fit : goal.returns-clause-fit
returns-clause-fit g c =
    let old : Meaning = g.S.Shelf.meaning c.args.shelf.now in
    let new : Meaning = g.S.Shelf.meaning c.try_all.new.shelf in
    let fits = fits_try c.args.good c.args.config.now c.try_all.new.config old new c.try_all.ensures.underway (g.met.S.Shelf.lawful c.args.shelf.now) in
    elim c.match-try_all.branch [
      | in-Ok w ↦ subst (λ (e : Config). StayFit c.args.config.now e.serial old new) (sym w.config-is) fits
      | in-Err w ↦ subst (λ (e : Config). StayFit c.args.config.now e.serial old new) (sym w.config-is) fits
    ]

pub returns-clause-last : goal.returns-clause-last
returns-clause-last g c =
    let d : Config = c.try_all.new.config in
    elim c.match-try_all.branch [
      | in-Ok w ↦ subst (λ (r : Result ℕ No). IfErr r (NamesLast g.S.Shelf.meaning c.args.good c.args.config.now c.match-try_all.config.serial c.args.shelf.now c.try_all.new.shelf)) (sym w.result-is) tt
      | in-Err w ↦
          subst (λ (r : Result ℕ No). IfErr r (NamesLast g.S.Shelf.meaning c.args.good c.args.config.now c.match-try_all.config.serial c.args.shelf.now c.try_all.new.shelf)) (sym w.result-is)
          (subst (λ (n : ℕ). NamesLast g.S.Shelf.meaning c.args.good c.args.config.now n c.args.shelf.now c.try_all.new.shelf w.in-Err.no) (ap (λ (e : Config). e.serial) (sym w.config-is)) w.in-Err.ensures.last)
    ]

pub returns-clause-calls : goal.returns-clause-calls
returns-clause-calls g c =
    let old : Meaning = g.S.Shelf.meaning c.args.shelf.now in
    let new : Meaning = g.S.Shelf.meaning c.try_all.new.shelf in
    elim c.match-try_all.branch [
      | in-Ok w ↦
          subst (λ (e : Config). OnOk c.match-try_all.result (e.serial ≡ c.args.config.now.serial + 1 → MakesCalls (4 * good_count e.disks) old new)) (sym w.config-is)
          (subst (λ (r : Result ℕ No). OnOk r (c.try_all.new.config.serial ≡ c.args.config.now.serial + 1 → MakesCalls (4 * good_count c.try_all.new.config.disks) old new)) (sym w.result-is) w.in-Ok.ensures.calls)
      | in-Err w ↦
          subst (λ (r : Result ℕ No). OnOk r (c.match-try_all.config.serial ≡ c.args.config.now.serial + 1 → MakesCalls (4 * good_count c.match-try_all.config.disks) old new)) (sym w.result-is) tt
    ]

pub returns-clause-named : goal.returns-clause-named
returns-clause-named g c =
    let old : Meaning = g.S.Shelf.meaning c.args.shelf.now in
    let new : Meaning = g.S.Shelf.meaning c.try_all.new.shelf in
    elim c.match-try_all.branch [
      | in-Ok w ↦
          subst (λ (e : Config). IfOk c.match-try_all.result (NamesFailed c.args.config.now e old new)) (sym w.config-is)
          (subst (λ (r : Result ℕ No). IfOk r (NamesFailed c.args.config.now c.try_all.new.config old new)) (sym w.result-is) w.in-Ok.ensures.named)
      | in-Err w ↦ subst (λ (r : Result ℕ No). IfOk r (NamesFailed c.args.config.now c.match-try_all.config old new)) (sym w.result-is) tt
    ]

pub returns-clause-up : goal.returns-clause-up
returns-clause-up g c =
    let old : Meaning = g.S.Shelf.meaning c.args.shelf.now in
    let new : Meaning = g.S.Shelf.meaning c.try_all.new.shelf in
    elim c.match-try_all.branch [
      | in-Ok w ↦ subst (λ (r : Result ℕ No). OnOk r (KeepsUp old new)) (sym w.result-is) w.in-Ok.ensures.up
      | in-Err w ↦ subst (λ (r : Result ℕ No). OnOk r (KeepsUp old new)) (sym w.result-is) tt
    ]
