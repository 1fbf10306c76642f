-- `commit_clean`: clauses acts, ends, can, wanted, finds and trusts; what `commit_in` asks.
use Rattle.std.proofs.Common.{◌≡◌, true, refl, sym, subst}
use Rattle.vx_disk.specs.Shelf.{Meaning}
use Rattle.vx_config.specs.Configs.{CanSpell}
use Rattle.vx_config.specs.declared.config.Config.{Config}
use Rattle.vx_copies.specs.Bodies.{is_wanted}
use Rattle.vx_kept.specs.Cleans.{Shown, at_serial}
use Rattle.vx_kept.specs.Commits.{Left, Member}
use Rattle.vx_kept.specs.Finds.{FindsFrom, IsTryOf}
use Rattle.vx_kept.proofs.CleanCommits.{clean_back, clean_follows, clean_shown, clean_tidy, clean_wanted}
use Rattle.vx_kept.proofs.Committed.{base_of, take_acts, take_refused}
use Rattle.vx_kept.proofs.Narrower.{sound_few, wanted_sound}
use Rattle.vx_kept.proofs.Staling.{all_serial, can_serial, wanted_back}
use Rattle.vx_kept.proofs.Trusting.{sees_of, tried_finds, trust_done, trust_left}
use Rattle.vx_kept.proofs.committing.commit_clean.Goals as goal

pub commit_in-requires-clause-wanted : goal.commit_in-requires-clause-wanted
commit_in-requires-clause-wanted g c =
    let m : Meaning = g.S.Shelf.meaning c.args.shelf.now in
    clean_wanted c.args.unsure.now c.args.config.now c.make_clean.new.config c.make_clean.ensures.cleaned m.units m.size c.requires.wanted c.make_clean.ensures.sound

pub commit_in-requires-clause-short : goal.commit_in-requires-clause-short
commit_in-requires-clause-short g c =
    let m : Meaning = g.S.Shelf.meaning c.args.shelf.now in
    let wanted = clean_wanted c.args.unsure.now c.args.config.now c.make_clean.new.config c.make_clean.ensures.cleaned m.units m.size c.requires.wanted c.make_clean.ensures.sound in
    sound_few c.make_clean.new.config (wanted_sound m.units m.size c.make_clean.new.config wanted)

pub returns-in-Ok-clause-acts : goal.returns-in-Ok-clause-acts
returns-in-Ok-clause-acts g c =
    let old : Meaning = g.S.Shelf.meaning c.args.shelf.now in
    let new : Meaning = g.S.Shelf.meaning c.commit_in.new.shelf in
    let is = c.make_clean.ensures.cleaned in
    take_acts c.args.good c.args.config.now c.make_clean.new.config c.commit_in.new.config old new (g.met.S.Shelf.lawful c.args.shelf.now) (g.met.S.Shelf.lawful c.commit_in.new.shelf) c.requires.kept
    (clean_tidy c.args.unsure.now c.args.config.now c.make_clean.new.config is old c.requires.tidy)
    (clean_follows c.args.unsure.now c.args.config.now c.make_clean.new.config is (wanted_sound old.units old.size c.args.config.now c.requires.wanted) c.requires.on) c.commit_in.ensures.begins c.commit_in.ensures.fit

pub returns-in-Err-clause-acts : goal.returns-in-Err-clause-acts
returns-in-Err-clause-acts g c =
    let old : Meaning = g.S.Shelf.meaning c.args.shelf.now in
    let new : Meaning = g.S.Shelf.meaning c.commit_in.new.shelf in
    let is = c.make_clean.ensures.cleaned in
    take_acts c.args.good c.args.config.now c.make_clean.new.config c.commit_in.new.config old new (g.met.S.Shelf.lawful c.args.shelf.now) (g.met.S.Shelf.lawful c.commit_in.new.shelf) c.requires.kept
    (clean_tidy c.args.unsure.now c.args.config.now c.make_clean.new.config is old c.requires.tidy)
    (clean_follows c.args.unsure.now c.args.config.now c.make_clean.new.config is (wanted_sound old.units old.size c.args.config.now c.requires.wanted) c.requires.on) c.commit_in.ensures.begins c.commit_in.ensures.fit

pub returns-in-Ok-clause-ends : goal.returns-in-Ok-clause-ends
returns-in-Ok-clause-ends g c =
    let old : Meaning = g.S.Shelf.meaning c.args.shelf.now in
    let new : Meaning = g.S.Shelf.meaning c.commit_in.new.shelf in
    let is = c.make_clean.ensures.cleaned in
    subst (λ (a : Config). Shown c.args.config.now a c.commit_in.new.config old new) is
    (clean_shown c.args.good c.args.config.now c.make_clean.new.config c.commit_in.new.config (Member c.args.good old) old new (g.met.S.Shelf.lawful c.args.shelf.now) (g.met.S.Shelf.lawful c.commit_in.new.shelf) c.requires.kept
    (clean_tidy c.args.unsure.now c.args.config.now c.make_clean.new.config is old c.requires.tidy)
    (clean_follows c.args.unsure.now c.args.config.now c.make_clean.new.config is (wanted_sound old.units old.size c.args.config.now c.requires.wanted) c.requires.on) c.commit_in.ensures.begins c.commit_in.ensures.fit
    c.in-Ok.ensures.ends c.commit_in.ensures.wanted)

pub returns-in-Err-clause-can : goal.returns-in-Err-clause-can
returns-in-Err-clause-can g c =
    let s = c.commit_in.new.config.serial in
    let back : c.make_open.new.config ≡ at_serial s c.args.config.now = c.make_open.ensures.back (at_serial s c.args.config.now) c.args.unsure.now
    (clean_back c.args.good c.args.unsure.now c.args.config.now c.make_clean.new.config c.commit_in.new.config (g.S.Shelf.meaning c.args.shelf.now) (g.S.Shelf.meaning c.commit_in.new.shelf) c.in-Err.no c.make_clean.ensures.cleaned c.in-Err.ensures.ends)
    (all_serial s c.args.config.now c.requires.on) in
    subst CanSpell (sym back) (can_serial s c.args.config.now c.commit_in.new.config c.requires.can c.commit_in.ensures.can refl)

pub returns-in-Err-clause-wanted : goal.returns-in-Err-clause-wanted
returns-in-Err-clause-wanted g c =
    let s = c.commit_in.new.config.serial in
    let old : Meaning = g.S.Shelf.meaning c.args.shelf.now in
    let new : Meaning = g.S.Shelf.meaning c.commit_in.new.shelf in
    let back : c.make_open.new.config ≡ at_serial s c.args.config.now = c.make_open.ensures.back (at_serial s c.args.config.now) c.args.unsure.now
    (clean_back c.args.good c.args.unsure.now c.args.config.now c.make_clean.new.config c.commit_in.new.config old new c.in-Err.no c.make_clean.ensures.cleaned c.in-Err.ensures.ends)
    (all_serial s c.args.config.now c.requires.on) in
    subst (λ (e : Config). is_wanted new.units new.size e ≡ true) (sym back) (wanted_back s c.args.config.now old new c.commit_in.ensures.begins.moves.units c.commit_in.ensures.begins.moves.size c.requires.wanted)

pub returns-in-Err-clause-ends : goal.returns-in-Err-clause-ends
returns-in-Err-clause-ends g c =
    let s = c.commit_in.new.config.serial in
    let old : Meaning = g.S.Shelf.meaning c.args.shelf.now in
    let new : Meaning = g.S.Shelf.meaning c.commit_in.new.shelf in
    let is = c.make_clean.ensures.cleaned in
    let back : c.make_open.new.config ≡ at_serial s c.args.config.now = c.make_open.ensures.back (at_serial s c.args.config.now) c.args.unsure.now
    (clean_back c.args.good c.args.unsure.now c.args.config.now c.make_clean.new.config c.commit_in.new.config old new c.in-Err.no is c.in-Err.ensures.ends)
    (all_serial s c.args.config.now c.requires.on) in
    subst (λ (a : Config). Left c.args.good c.args.config.now a c.make_open.new.config old new c.in-Err.no) is
    (take_refused c.args.good c.args.config.now c.make_clean.new.config c.commit_in.new.config old new (g.met.S.Shelf.lawful c.args.shelf.now) (g.met.S.Shelf.lawful c.commit_in.new.shelf) c.requires.kept
    (clean_tidy c.args.unsure.now c.args.config.now c.make_clean.new.config is old c.requires.tidy)
    (clean_follows c.args.unsure.now c.args.config.now c.make_clean.new.config is (wanted_sound old.units old.size c.args.config.now c.requires.wanted) c.requires.on) c.commit_in.ensures.begins c.commit_in.ensures.fit
    c.make_open.new.config c.in-Err.no c.in-Err.ensures.ends back)

pub returns-in-Ok-clause-trusts : goal.returns-in-Ok-clause-trusts
returns-in-Ok-clause-trusts g c =
    trust_done c.args.good c.args.config.now c.make_clean.new.config c.commit_in.new.config (g.S.Shelf.meaning c.args.shelf.now) (g.S.Shelf.meaning c.commit_in.new.shelf) (g.met.S.Shelf.lawful c.args.shelf.now) (g.met.S.Shelf.lawful c.commit_in.new.shelf)
    (base_of c.args.config.now (Member c.args.good (g.S.Shelf.meaning c.args.shelf.now)) (g.S.Shelf.meaning c.args.shelf.now) c.requires.kept)
    (clean_tidy c.args.unsure.now c.args.config.now c.make_clean.new.config c.make_clean.ensures.cleaned (g.S.Shelf.meaning c.args.shelf.now) c.requires.tidy)
    (clean_follows c.args.unsure.now c.args.config.now c.make_clean.new.config c.make_clean.ensures.cleaned (wanted_sound (g.S.Shelf.meaning c.args.shelf.now).units (g.S.Shelf.meaning c.args.shelf.now).size c.args.config.now c.requires.wanted) c.requires.on).serial
    (sees_of c.args.config.now (Member c.args.good (g.S.Shelf.meaning c.args.shelf.now)) (g.S.Shelf.meaning c.args.shelf.now) c.requires.kept) c.commit_in.ensures.begins.moves.units c.commit_in.ensures.begins.moves.size c.commit_in.ensures.begins.moves.tells
    c.in-Ok.ensures.ends

pub returns-in-Err-clause-trusts : goal.returns-in-Err-clause-trusts
returns-in-Err-clause-trusts g c =
    trust_left c.args.good c.args.config.now c.make_clean.new.config c.commit_in.new.config (g.S.Shelf.meaning c.args.shelf.now) (g.S.Shelf.meaning c.commit_in.new.shelf) (g.met.S.Shelf.lawful c.args.shelf.now) (g.met.S.Shelf.lawful c.commit_in.new.shelf)
    (base_of c.args.config.now (Member c.args.good (g.S.Shelf.meaning c.args.shelf.now)) (g.S.Shelf.meaning c.args.shelf.now) c.requires.kept)
    (clean_tidy c.args.unsure.now c.args.config.now c.make_clean.new.config c.make_clean.ensures.cleaned (g.S.Shelf.meaning c.args.shelf.now) c.requires.tidy)
    (clean_follows c.args.unsure.now c.args.config.now c.make_clean.new.config c.make_clean.ensures.cleaned (wanted_sound (g.S.Shelf.meaning c.args.shelf.now).units (g.S.Shelf.meaning c.args.shelf.now).size c.args.config.now c.requires.wanted) c.requires.on).serial
    (sees_of c.args.config.now (Member c.args.good (g.S.Shelf.meaning c.args.shelf.now)) (g.S.Shelf.meaning c.args.shelf.now) c.requires.kept) c.commit_in.ensures.begins.moves.units c.commit_in.ensures.begins.moves.size c.commit_in.ensures.begins.moves.tells
    c.commit_in.new.config.serial c.commit_in.ensures.finds

pub returns-in-Ok-clause-finds : goal.returns-in-Ok-clause-finds
returns-in-Ok-clause-finds g c =
    subst (λ (a : Config). FindsFrom (IsTryOf a) (g.S.Shelf.meaning c.args.shelf.now) (g.S.Shelf.meaning c.commit_in.new.shelf)) c.make_clean.ensures.cleaned
    (tried_finds c.args.good c.args.config.now c.make_clean.new.config c.commit_in.new.config (g.S.Shelf.meaning c.args.shelf.now) (g.S.Shelf.meaning c.commit_in.new.shelf) (g.met.S.Shelf.lawful c.args.shelf.now) (g.met.S.Shelf.lawful c.commit_in.new.shelf)
    (base_of c.args.config.now (Member c.args.good (g.S.Shelf.meaning c.args.shelf.now)) (g.S.Shelf.meaning c.args.shelf.now) c.requires.kept)
    (clean_tidy c.args.unsure.now c.args.config.now c.make_clean.new.config c.make_clean.ensures.cleaned (g.S.Shelf.meaning c.args.shelf.now) c.requires.tidy)
    (clean_follows c.args.unsure.now c.args.config.now c.make_clean.new.config c.make_clean.ensures.cleaned (wanted_sound (g.S.Shelf.meaning c.args.shelf.now).units (g.S.Shelf.meaning c.args.shelf.now).size c.args.config.now c.requires.wanted) c.requires.on).serial
    (sees_of c.args.config.now (Member c.args.good (g.S.Shelf.meaning c.args.shelf.now)) (g.S.Shelf.meaning c.args.shelf.now) c.requires.kept) c.commit_in.ensures.begins.moves.units c.commit_in.ensures.begins.moves.size c.commit_in.ensures.begins.moves.tells
    c.commit_in.new.config.serial c.commit_in.ensures.finds)

pub returns-in-Err-clause-finds : goal.returns-in-Err-clause-finds
returns-in-Err-clause-finds g c =
    subst (λ (a : Config). FindsFrom (IsTryOf a) (g.S.Shelf.meaning c.args.shelf.now) (g.S.Shelf.meaning c.commit_in.new.shelf)) c.make_clean.ensures.cleaned
    (tried_finds c.args.good c.args.config.now c.make_clean.new.config c.commit_in.new.config (g.S.Shelf.meaning c.args.shelf.now) (g.S.Shelf.meaning c.commit_in.new.shelf) (g.met.S.Shelf.lawful c.args.shelf.now) (g.met.S.Shelf.lawful c.commit_in.new.shelf)
    (base_of c.args.config.now (Member c.args.good (g.S.Shelf.meaning c.args.shelf.now)) (g.S.Shelf.meaning c.args.shelf.now) c.requires.kept)
    (clean_tidy c.args.unsure.now c.args.config.now c.make_clean.new.config c.make_clean.ensures.cleaned (g.S.Shelf.meaning c.args.shelf.now) c.requires.tidy)
    (clean_follows c.args.unsure.now c.args.config.now c.make_clean.new.config c.make_clean.ensures.cleaned (wanted_sound (g.S.Shelf.meaning c.args.shelf.now).units (g.S.Shelf.meaning c.args.shelf.now).size c.args.config.now c.requires.wanted) c.requires.on).serial
    (sees_of c.args.config.now (Member c.args.good (g.S.Shelf.meaning c.args.shelf.now)) (g.S.Shelf.meaning c.args.shelf.now) c.requires.kept) c.commit_in.ensures.begins.moves.units c.commit_in.ensures.begins.moves.size c.commit_in.ensures.begins.moves.tells
    c.commit_in.new.config.serial c.commit_in.ensures.finds)
