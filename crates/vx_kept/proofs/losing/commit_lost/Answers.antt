-- The commit of a log that is lost.
use Rattle.std.proofs.Common.{◌≡◌, ◌∙◌, inl, inr, ⊎_elim, refl, subst, sym, true}
use Rattle.vx_config.specs.Configs.{CanSpell}
use Rattle.vx_config.specs.declared.config.Config.{Config}
use Rattle.vx_copies.specs.Bodies.{is_wanted}
use Rattle.vx_kept.specs.Commits.{Left, Member, Taken}
use Rattle.vx_kept.specs.Finds.{FindsFrom, IsTryOf}
use Rattle.vx_kept.specs.Keeping.{AllOn}
use Rattle.vx_kept.proofs.Committed.{base_of, take_acts, take_done, take_on, take_refused}
use Rattle.vx_kept.proofs.LosingLemmas.{flag_serial, lost_follows, lost_on, lost_refused, lost_tidy, lost_wanted}
use Rattle.vx_kept.proofs.Narrower.{sound_few, wanted_sound}
use Rattle.vx_kept.proofs.Staling.{all_serial, can_serial, wanted_back, with_serial}
use Rattle.vx_kept.proofs.Trusting.{sees_of, tried_finds, trust_done, trust_left}
use Rattle.vx_kept.proofs.losing.commit_lost.Goals as goal

pub commit_named-requires-clause-wanted : goal.commit_named-requires-clause-wanted
commit_named-requires-clause-wanted g c =
    lost_wanted c.args.config.now c.lose.new.config c.lose.ensures.same c.lose.ensures.sound (g.S.Shelf.meaning c.args.shelf.now).units (g.S.Shelf.meaning c.args.shelf.now).size c.requires.wanted

pub commit_named-requires-clause-short : goal.commit_named-requires-clause-short
commit_named-requires-clause-short g c =
    sound_few c.lose.new.config (wanted_sound (g.S.Shelf.meaning c.args.shelf.now).units (g.S.Shelf.meaning c.args.shelf.now).size c.lose.new.config (lost_wanted c.args.config.now c.lose.new.config c.lose.ensures.same c.lose.ensures.sound (g.S.Shelf.meaning c.args.shelf.now).units (g.S.Shelf.meaning c.args.shelf.now).size c.requires.wanted))

pub returns-in-Ok-clause-acts : goal.returns-in-Ok-clause-acts
returns-in-Ok-clause-acts g c =
    take_acts c.args.good c.args.config.now c.lose.new.config c.commit_named.new.config (g.S.Shelf.meaning c.args.shelf.now) (g.S.Shelf.meaning c.commit_named.new.shelf) (g.met.S.Shelf.lawful c.args.shelf.now) (g.met.S.Shelf.lawful c.commit_named.new.shelf) c.requires.kept
    (lost_tidy c.args.config.now c.lose.new.config c.lose.ensures.same (g.S.Shelf.meaning c.args.shelf.now) c.requires.tidy)
    (lost_follows c.args.config.now c.lose.new.config c.lose.ensures.same (wanted_sound (g.S.Shelf.meaning c.args.shelf.now).units (g.S.Shelf.meaning c.args.shelf.now).size c.args.config.now c.requires.wanted) c.requires.on) c.commit_named.ensures.begins c.commit_named.ensures.fit

pub returns-in-Err-clause-acts : goal.returns-in-Err-clause-acts
returns-in-Err-clause-acts g c =
    take_acts c.args.good c.args.config.now c.lose.new.config c.commit_named.new.config (g.S.Shelf.meaning c.args.shelf.now) (g.S.Shelf.meaning c.commit_named.new.shelf) (g.met.S.Shelf.lawful c.args.shelf.now) (g.met.S.Shelf.lawful c.commit_named.new.shelf) c.requires.kept
    (lost_tidy c.args.config.now c.lose.new.config c.lose.ensures.same (g.S.Shelf.meaning c.args.shelf.now) c.requires.tidy)
    (lost_follows c.args.config.now c.lose.new.config c.lose.ensures.same (wanted_sound (g.S.Shelf.meaning c.args.shelf.now).units (g.S.Shelf.meaning c.args.shelf.now).size c.args.config.now c.requires.wanted) c.requires.on) c.commit_named.ensures.begins c.commit_named.ensures.fit

pub returns-in-Ok-clause-on : goal.returns-in-Ok-clause-on
returns-in-Ok-clause-on g c =
    take_on c.lose.new.config c.commit_named.new.config c.in-Ok.ensures.ends.grown.volumes (lost_on c.args.config.now c.lose.new.config c.lose.ensures.same c.requires.on)

pub returns-in-Ok-clause-ends : goal.returns-in-Ok-clause-ends
returns-in-Ok-clause-ends g c =
    subst (λ (a : Config). Taken c.args.config.now a c.commit_named.new.config (g.S.Shelf.meaning c.args.shelf.now) (g.S.Shelf.meaning c.commit_named.new.shelf)) c.lose.ensures.changed
    (take_done c.args.good c.args.config.now c.lose.new.config c.commit_named.new.config (g.S.Shelf.meaning c.args.shelf.now) (g.S.Shelf.meaning c.commit_named.new.shelf) (g.met.S.Shelf.lawful c.args.shelf.now) (g.met.S.Shelf.lawful c.commit_named.new.shelf) c.requires.kept
    (lost_tidy c.args.config.now c.lose.new.config c.lose.ensures.same (g.S.Shelf.meaning c.args.shelf.now) c.requires.tidy)
    (lost_follows c.args.config.now c.lose.new.config c.lose.ensures.same (wanted_sound (g.S.Shelf.meaning c.args.shelf.now).units (g.S.Shelf.meaning c.args.shelf.now).size c.args.config.now c.requires.wanted) c.requires.on) c.commit_named.ensures.begins c.commit_named.ensures.fit
    (lost_on c.args.config.now c.lose.new.config c.lose.ensures.same c.requires.on) c.in-Ok.ensures.ends c.commit_named.ensures.wanted)

pub returns-in-Err-clause-can : goal.returns-in-Err-clause-can
returns-in-Err-clause-can g c =
    let s = c.commit_named.new.config.serial in
    let back : c.give_back.new.config ≡ with_serial s c.args.config.now = c.give_back.ensures (with_serial s c.args.config.now)
    (lost_refused c.args.good c.args.vol c.args.log c.args.config.now c.lose.new.config c.commit_named.new.config (g.S.Shelf.meaning c.args.shelf.now) (g.S.Shelf.meaning c.commit_named.new.shelf) c.in-Err.no c.lose.ensures.changed c.in-Err.ensures.ends)
    (flag_serial c.is_lost-was.result s c.args.vol c.args.log c.args.config.now c.is_lost-was.ensures) in
    subst CanSpell (sym back) (can_serial s c.args.config.now c.commit_named.new.config c.requires.can c.commit_named.ensures.can refl)

pub returns-in-Err-clause-wanted : goal.returns-in-Err-clause-wanted
returns-in-Err-clause-wanted g c =
    let s = c.commit_named.new.config.serial in
    let back : c.give_back.new.config ≡ with_serial s c.args.config.now = c.give_back.ensures (with_serial s c.args.config.now)
    (lost_refused c.args.good c.args.vol c.args.log c.args.config.now c.lose.new.config c.commit_named.new.config (g.S.Shelf.meaning c.args.shelf.now) (g.S.Shelf.meaning c.commit_named.new.shelf) c.in-Err.no c.lose.ensures.changed c.in-Err.ensures.ends)
    (flag_serial c.is_lost-was.result s c.args.vol c.args.log c.args.config.now c.is_lost-was.ensures) in
    subst (λ (e : Config). is_wanted (g.S.Shelf.meaning c.commit_named.new.shelf).units (g.S.Shelf.meaning c.commit_named.new.shelf).size e ≡ true) (sym back)
    (wanted_back s c.args.config.now (g.S.Shelf.meaning c.args.shelf.now) (g.S.Shelf.meaning c.commit_named.new.shelf) c.commit_named.ensures.begins.moves.units c.commit_named.ensures.begins.moves.size c.requires.wanted)

pub returns-in-Err-clause-on : goal.returns-in-Err-clause-on
returns-in-Err-clause-on g c =
    let s = c.commit_named.new.config.serial in
    let back : c.give_back.new.config ≡ with_serial s c.args.config.now = c.give_back.ensures (with_serial s c.args.config.now)
    (lost_refused c.args.good c.args.vol c.args.log c.args.config.now c.lose.new.config c.commit_named.new.config (g.S.Shelf.meaning c.args.shelf.now) (g.S.Shelf.meaning c.commit_named.new.shelf) c.in-Err.no c.lose.ensures.changed c.in-Err.ensures.ends)
    (flag_serial c.is_lost-was.result s c.args.vol c.args.log c.args.config.now c.is_lost-was.ensures) in
    subst AllOn (sym back) (all_serial s c.args.config.now c.requires.on)

pub returns-in-Err-clause-ends : goal.returns-in-Err-clause-ends
returns-in-Err-clause-ends g c =
    let s = c.commit_named.new.config.serial in
    let back : c.give_back.new.config ≡ with_serial s c.args.config.now = c.give_back.ensures (with_serial s c.args.config.now)
    (lost_refused c.args.good c.args.vol c.args.log c.args.config.now c.lose.new.config c.commit_named.new.config (g.S.Shelf.meaning c.args.shelf.now) (g.S.Shelf.meaning c.commit_named.new.shelf) c.in-Err.no c.lose.ensures.changed c.in-Err.ensures.ends)
    (flag_serial c.is_lost-was.result s c.args.vol c.args.log c.args.config.now c.is_lost-was.ensures) in
    subst (λ (a : Config). Left c.args.good c.args.config.now a c.give_back.new.config (g.S.Shelf.meaning c.args.shelf.now) (g.S.Shelf.meaning c.commit_named.new.shelf) c.in-Err.no) c.lose.ensures.changed
    (take_refused c.args.good c.args.config.now c.lose.new.config c.commit_named.new.config (g.S.Shelf.meaning c.args.shelf.now) (g.S.Shelf.meaning c.commit_named.new.shelf) (g.met.S.Shelf.lawful c.args.shelf.now) (g.met.S.Shelf.lawful c.commit_named.new.shelf) c.requires.kept
    (lost_tidy c.args.config.now c.lose.new.config c.lose.ensures.same (g.S.Shelf.meaning c.args.shelf.now) c.requires.tidy)
    (lost_follows c.args.config.now c.lose.new.config c.lose.ensures.same (wanted_sound (g.S.Shelf.meaning c.args.shelf.now).units (g.S.Shelf.meaning c.args.shelf.now).size c.args.config.now c.requires.wanted) c.requires.on) c.commit_named.ensures.begins c.commit_named.ensures.fit c.give_back.new.config c.in-Err.no c.in-Err.ensures.ends back)

pub returns-in-Ok-clause-named : goal.returns-in-Ok-clause-named
returns-in-Ok-clause-named g c =
    ⊎_elim (λ same. inl (same ∙ c.lose.ensures.same.disks)) (λ rose. inr rose) c.in-Ok.ensures.named

pub returns-in-Ok-clause-trusts : goal.returns-in-Ok-clause-trusts
returns-in-Ok-clause-trusts g c =
    trust_done c.args.good c.args.config.now c.lose.new.config c.commit_named.new.config (g.S.Shelf.meaning c.args.shelf.now) (g.S.Shelf.meaning c.commit_named.new.shelf) (g.met.S.Shelf.lawful c.args.shelf.now) (g.met.S.Shelf.lawful c.commit_named.new.shelf)
    (base_of c.args.config.now (Member c.args.good (g.S.Shelf.meaning c.args.shelf.now)) (g.S.Shelf.meaning c.args.shelf.now) c.requires.kept)
    (lost_tidy c.args.config.now c.lose.new.config c.lose.ensures.same (g.S.Shelf.meaning c.args.shelf.now) c.requires.tidy)
    (lost_follows c.args.config.now c.lose.new.config c.lose.ensures.same (wanted_sound (g.S.Shelf.meaning c.args.shelf.now).units (g.S.Shelf.meaning c.args.shelf.now).size c.args.config.now c.requires.wanted) c.requires.on).serial
    (sees_of c.args.config.now (Member c.args.good (g.S.Shelf.meaning c.args.shelf.now)) (g.S.Shelf.meaning c.args.shelf.now) c.requires.kept) c.commit_named.ensures.begins.moves.units c.commit_named.ensures.begins.moves.size c.commit_named.ensures.begins.moves.tells
    c.in-Ok.ensures.ends

pub returns-in-Err-clause-trusts : goal.returns-in-Err-clause-trusts
returns-in-Err-clause-trusts g c =
    trust_left c.args.good c.args.config.now c.lose.new.config c.commit_named.new.config (g.S.Shelf.meaning c.args.shelf.now) (g.S.Shelf.meaning c.commit_named.new.shelf) (g.met.S.Shelf.lawful c.args.shelf.now) (g.met.S.Shelf.lawful c.commit_named.new.shelf)
    (base_of c.args.config.now (Member c.args.good (g.S.Shelf.meaning c.args.shelf.now)) (g.S.Shelf.meaning c.args.shelf.now) c.requires.kept)
    (lost_tidy c.args.config.now c.lose.new.config c.lose.ensures.same (g.S.Shelf.meaning c.args.shelf.now) c.requires.tidy)
    (lost_follows c.args.config.now c.lose.new.config c.lose.ensures.same (wanted_sound (g.S.Shelf.meaning c.args.shelf.now).units (g.S.Shelf.meaning c.args.shelf.now).size c.args.config.now c.requires.wanted) c.requires.on).serial
    (sees_of c.args.config.now (Member c.args.good (g.S.Shelf.meaning c.args.shelf.now)) (g.S.Shelf.meaning c.args.shelf.now) c.requires.kept) c.commit_named.ensures.begins.moves.units c.commit_named.ensures.begins.moves.size c.commit_named.ensures.begins.moves.tells
    c.commit_named.new.config.serial c.commit_named.ensures.finds

pub returns-in-Ok-clause-finds : goal.returns-in-Ok-clause-finds
returns-in-Ok-clause-finds g c =
    subst (λ (a : Config). FindsFrom (IsTryOf a) (g.S.Shelf.meaning c.args.shelf.now) (g.S.Shelf.meaning c.commit_named.new.shelf)) c.lose.ensures.changed
    (tried_finds c.args.good c.args.config.now c.lose.new.config c.commit_named.new.config (g.S.Shelf.meaning c.args.shelf.now) (g.S.Shelf.meaning c.commit_named.new.shelf) (g.met.S.Shelf.lawful c.args.shelf.now) (g.met.S.Shelf.lawful c.commit_named.new.shelf)
    (base_of c.args.config.now (Member c.args.good (g.S.Shelf.meaning c.args.shelf.now)) (g.S.Shelf.meaning c.args.shelf.now) c.requires.kept)
    (lost_tidy c.args.config.now c.lose.new.config c.lose.ensures.same (g.S.Shelf.meaning c.args.shelf.now) c.requires.tidy)
    (lost_follows c.args.config.now c.lose.new.config c.lose.ensures.same (wanted_sound (g.S.Shelf.meaning c.args.shelf.now).units (g.S.Shelf.meaning c.args.shelf.now).size c.args.config.now c.requires.wanted) c.requires.on).serial
    (sees_of c.args.config.now (Member c.args.good (g.S.Shelf.meaning c.args.shelf.now)) (g.S.Shelf.meaning c.args.shelf.now) c.requires.kept) c.commit_named.ensures.begins.moves.units c.commit_named.ensures.begins.moves.size c.commit_named.ensures.begins.moves.tells
    c.commit_named.new.config.serial c.commit_named.ensures.finds)

pub returns-in-Err-clause-finds : goal.returns-in-Err-clause-finds
returns-in-Err-clause-finds g c =
    subst (λ (a : Config). FindsFrom (IsTryOf a) (g.S.Shelf.meaning c.args.shelf.now) (g.S.Shelf.meaning c.commit_named.new.shelf)) c.lose.ensures.changed
    (tried_finds c.args.good c.args.config.now c.lose.new.config c.commit_named.new.config (g.S.Shelf.meaning c.args.shelf.now) (g.S.Shelf.meaning c.commit_named.new.shelf) (g.met.S.Shelf.lawful c.args.shelf.now) (g.met.S.Shelf.lawful c.commit_named.new.shelf)
    (base_of c.args.config.now (Member c.args.good (g.S.Shelf.meaning c.args.shelf.now)) (g.S.Shelf.meaning c.args.shelf.now) c.requires.kept)
    (lost_tidy c.args.config.now c.lose.new.config c.lose.ensures.same (g.S.Shelf.meaning c.args.shelf.now) c.requires.tidy)
    (lost_follows c.args.config.now c.lose.new.config c.lose.ensures.same (wanted_sound (g.S.Shelf.meaning c.args.shelf.now).units (g.S.Shelf.meaning c.args.shelf.now).size c.args.config.now c.requires.wanted) c.requires.on).serial
    (sees_of c.args.config.now (Member c.args.good (g.S.Shelf.meaning c.args.shelf.now)) (g.S.Shelf.meaning c.args.shelf.now) c.requires.kept) c.commit_named.ensures.begins.moves.units c.commit_named.ensures.begins.moves.size c.commit_named.ensures.begins.moves.tells
    c.commit_named.new.config.serial c.commit_named.ensures.finds)
