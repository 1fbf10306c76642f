-- `commit_stale`: clauses acts, on, ends, can, wanted, named, finds and trusts; what `commit_named` asks.
use Rattle.std.proofs.Common.{ap, inl, inr, ⊎_elim, ◌∙◌, ◌≡◌, true, refl, sym, subst}
use Rattle.vx_disk.specs.Shelf.{Meaning}
use Rattle.vx_config.specs.Configs.{CanSpell}
use Rattle.vx_config.specs.declared.config.Config.{Config}
use Rattle.vx_copies.specs.Bodies.{is_wanted}
use Rattle.vx_kept.specs.Commits.{Left, Member, Taken}
use Rattle.vx_kept.specs.Finds.{FindsFrom, IsTryOf}
use Rattle.vx_kept.specs.Keeping.{AllOn}
use Rattle.vx_kept.proofs.Committed.{base_of, take_acts, take_done, take_on, take_refused}
use Rattle.vx_kept.proofs.Narrower.{sound_few, wanted_sound}
use Rattle.vx_kept.proofs.StateLemmas.{is_staled}
use Rattle.vx_kept.proofs.Staling.{all_serial, can_serial, on_serial, put_back, stale_follows, stale_on, stale_tidy, stale_wanted, wanted_back, with_serial}
use Rattle.vx_kept.proofs.Trusting.{sees_of, tried_finds, trust_done, trust_left}
use Rattle.vx_kept.proofs.committing.commit_stale.Goals as goal

pub commit_named-requires-clause-wanted : goal.commit_named-requires-clause-wanted
commit_named-requires-clause-wanted g c =
    let m : Meaning = g.S.Shelf.meaning c.args.shelf.now in
    stale_wanted c.args.vol c.args.set c.args.config.now c.make_stale.new.config c.make_stale.ensures.staled m.units m.size c.requires.wanted c.make_stale.ensures.sound

pub commit_named-requires-clause-short : goal.commit_named-requires-clause-short
commit_named-requires-clause-short g c =
    let m : Meaning = g.S.Shelf.meaning c.args.shelf.now in
    let wanted = stale_wanted c.args.vol c.args.set c.args.config.now c.make_stale.new.config c.make_stale.ensures.staled m.units m.size c.requires.wanted c.make_stale.ensures.sound in
    sound_few c.make_stale.new.config (wanted_sound m.units m.size c.make_stale.new.config wanted)

pub returns-in-Ok-clause-acts : goal.returns-in-Ok-clause-acts
returns-in-Ok-clause-acts g c = take_acts c.args.good c.args.config.now c.make_stale.new.config c.commit_named.new.config (g.S.Shelf.meaning c.args.shelf.now) (g.S.Shelf.meaning c.commit_named.new.shelf) (g.met.S.Shelf.lawful c.args.shelf.now) (g.met.S.Shelf.lawful c.commit_named.new.shelf) c.requires.kept (stale_tidy c.args.vol c.args.set c.args.config.now c.make_stale.new.config c.make_stale.ensures.staled (g.S.Shelf.meaning c.args.shelf.now) c.requires.tidy) (stale_follows c.args.vol c.args.set c.args.config.now c.make_stale.new.config c.make_stale.ensures.staled c.requires.left (wanted_sound (g.S.Shelf.meaning c.args.shelf.now).units (g.S.Shelf.meaning c.args.shelf.now).size c.args.config.now c.requires.wanted) c.requires.on) c.commit_named.ensures.begins c.commit_named.ensures.fit

pub returns-in-Err-clause-acts : goal.returns-in-Err-clause-acts
returns-in-Err-clause-acts g c = take_acts c.args.good c.args.config.now c.make_stale.new.config c.commit_named.new.config (g.S.Shelf.meaning c.args.shelf.now) (g.S.Shelf.meaning c.commit_named.new.shelf) (g.met.S.Shelf.lawful c.args.shelf.now) (g.met.S.Shelf.lawful c.commit_named.new.shelf) c.requires.kept (stale_tidy c.args.vol c.args.set c.args.config.now c.make_stale.new.config c.make_stale.ensures.staled (g.S.Shelf.meaning c.args.shelf.now) c.requires.tidy) (stale_follows c.args.vol c.args.set c.args.config.now c.make_stale.new.config c.make_stale.ensures.staled c.requires.left (wanted_sound (g.S.Shelf.meaning c.args.shelf.now).units (g.S.Shelf.meaning c.args.shelf.now).size c.args.config.now c.requires.wanted) c.requires.on) c.commit_named.ensures.begins c.commit_named.ensures.fit

pub returns-in-Ok-clause-on : goal.returns-in-Ok-clause-on
returns-in-Ok-clause-on g c = take_on c.make_stale.new.config c.commit_named.new.config c.in-Ok.ensures.ends.grown.volumes (stale_on c.args.vol c.args.set c.args.config.now c.make_stale.new.config c.make_stale.ensures.staled c.requires.left (wanted_sound (g.S.Shelf.meaning c.args.shelf.now).units (g.S.Shelf.meaning c.args.shelf.now).size c.args.config.now c.requires.wanted) c.requires.on)

pub returns-in-Ok-clause-ends : goal.returns-in-Ok-clause-ends
returns-in-Ok-clause-ends g c =
    subst (λ (a : Config). Taken c.args.config.now a c.commit_named.new.config (g.S.Shelf.meaning c.args.shelf.now) (g.S.Shelf.meaning c.commit_named.new.shelf)) c.make_stale.ensures.staled
    (take_done c.args.good c.args.config.now c.make_stale.new.config c.commit_named.new.config (g.S.Shelf.meaning c.args.shelf.now) (g.S.Shelf.meaning c.commit_named.new.shelf) (g.met.S.Shelf.lawful c.args.shelf.now) (g.met.S.Shelf.lawful c.commit_named.new.shelf) c.requires.kept (stale_tidy c.args.vol c.args.set c.args.config.now c.make_stale.new.config c.make_stale.ensures.staled (g.S.Shelf.meaning c.args.shelf.now) c.requires.tidy) (stale_follows c.args.vol c.args.set c.args.config.now c.make_stale.new.config c.make_stale.ensures.staled c.requires.left (wanted_sound (g.S.Shelf.meaning c.args.shelf.now).units (g.S.Shelf.meaning c.args.shelf.now).size c.args.config.now c.requires.wanted) c.requires.on) c.commit_named.ensures.begins c.commit_named.ensures.fit (stale_on c.args.vol c.args.set c.args.config.now c.make_stale.new.config c.make_stale.ensures.staled c.requires.left (wanted_sound (g.S.Shelf.meaning c.args.shelf.now).units (g.S.Shelf.meaning c.args.shelf.now).size c.args.config.now c.requires.wanted) c.requires.on) c.in-Ok.ensures.ends c.commit_named.ensures.wanted)

pub returns-in-Err-clause-can : goal.returns-in-Err-clause-can
returns-in-Err-clause-can g c =
    let s = c.commit_named.new.config.serial in
    let back : c.make_active.new.config ≡ with_serial s c.args.config.now = c.make_active.ensures (with_serial s c.args.config.now)
    (put_back c.args.good c.args.vol c.args.set c.args.config.now c.make_stale.new.config c.commit_named.new.config (g.S.Shelf.meaning c.args.shelf.now) (g.S.Shelf.meaning c.commit_named.new.shelf) c.in-Err.no c.make_stale.ensures.staled c.in-Err.ensures.ends)
    (on_serial c.args.vol c.args.set s c.args.config.now c.requires.those) in
    subst CanSpell (sym back) (can_serial s c.args.config.now c.commit_named.new.config c.requires.can c.commit_named.ensures.can refl)

pub returns-in-Err-clause-wanted : goal.returns-in-Err-clause-wanted
returns-in-Err-clause-wanted g c =
    let s = c.commit_named.new.config.serial in
    let back : c.make_active.new.config ≡ with_serial s c.args.config.now = c.make_active.ensures (with_serial s c.args.config.now)
    (put_back c.args.good c.args.vol c.args.set c.args.config.now c.make_stale.new.config c.commit_named.new.config (g.S.Shelf.meaning c.args.shelf.now) (g.S.Shelf.meaning c.commit_named.new.shelf) c.in-Err.no c.make_stale.ensures.staled c.in-Err.ensures.ends)
    (on_serial c.args.vol c.args.set s c.args.config.now c.requires.those) in
    subst (λ (e : Config). is_wanted (g.S.Shelf.meaning c.commit_named.new.shelf).units (g.S.Shelf.meaning c.commit_named.new.shelf).size e ≡ true) (sym back) (wanted_back c.commit_named.new.config.serial c.args.config.now (g.S.Shelf.meaning c.args.shelf.now) (g.S.Shelf.meaning c.commit_named.new.shelf) c.commit_named.ensures.begins.moves.units c.commit_named.ensures.begins.moves.size c.requires.wanted)

pub returns-in-Err-clause-on : goal.returns-in-Err-clause-on
returns-in-Err-clause-on g c =
    let s = c.commit_named.new.config.serial in
    let back : c.make_active.new.config ≡ with_serial s c.args.config.now = c.make_active.ensures (with_serial s c.args.config.now)
    (put_back c.args.good c.args.vol c.args.set c.args.config.now c.make_stale.new.config c.commit_named.new.config (g.S.Shelf.meaning c.args.shelf.now) (g.S.Shelf.meaning c.commit_named.new.shelf) c.in-Err.no c.make_stale.ensures.staled c.in-Err.ensures.ends)
    (on_serial c.args.vol c.args.set s c.args.config.now c.requires.those) in
    subst AllOn (sym back) (all_serial s c.args.config.now c.requires.on)

pub returns-in-Err-clause-ends : goal.returns-in-Err-clause-ends
returns-in-Err-clause-ends g c =
    let s = c.commit_named.new.config.serial in
    let back : c.make_active.new.config ≡ with_serial s c.args.config.now = c.make_active.ensures (with_serial s c.args.config.now)
    (put_back c.args.good c.args.vol c.args.set c.args.config.now c.make_stale.new.config c.commit_named.new.config (g.S.Shelf.meaning c.args.shelf.now) (g.S.Shelf.meaning c.commit_named.new.shelf) c.in-Err.no c.make_stale.ensures.staled c.in-Err.ensures.ends)
    (on_serial c.args.vol c.args.set s c.args.config.now c.requires.those) in
    subst (λ (a : Config). Left c.args.good c.args.config.now a c.make_active.new.config (g.S.Shelf.meaning c.args.shelf.now) (g.S.Shelf.meaning c.commit_named.new.shelf) c.in-Err.no) c.make_stale.ensures.staled
    (take_refused c.args.good c.args.config.now c.make_stale.new.config c.commit_named.new.config (g.S.Shelf.meaning c.args.shelf.now) (g.S.Shelf.meaning c.commit_named.new.shelf) (g.met.S.Shelf.lawful c.args.shelf.now) (g.met.S.Shelf.lawful c.commit_named.new.shelf) c.requires.kept (stale_tidy c.args.vol c.args.set c.args.config.now c.make_stale.new.config c.make_stale.ensures.staled (g.S.Shelf.meaning c.args.shelf.now) c.requires.tidy) (stale_follows c.args.vol c.args.set c.args.config.now c.make_stale.new.config c.make_stale.ensures.staled c.requires.left (wanted_sound (g.S.Shelf.meaning c.args.shelf.now).units (g.S.Shelf.meaning c.args.shelf.now).size c.args.config.now c.requires.wanted) c.requires.on) c.commit_named.ensures.begins c.commit_named.ensures.fit c.make_active.new.config c.in-Err.no c.in-Err.ensures.ends back)

pub returns-in-Ok-clause-named : goal.returns-in-Ok-clause-named
returns-in-Ok-clause-named g c =
    let was = is_staled c.args.vol c.args.set 8 c.args.config.now in
    ⊎_elim (λ same. inl (same ∙ ap (λ (x : Config). x.disks) c.make_stale.ensures.staled ∙ was.disks)) (λ rose. inr rose) c.in-Ok.ensures.named

pub returns-in-Ok-clause-trusts : goal.returns-in-Ok-clause-trusts
returns-in-Ok-clause-trusts g c =
    trust_done c.args.good c.args.config.now c.make_stale.new.config c.commit_named.new.config (g.S.Shelf.meaning c.args.shelf.now) (g.S.Shelf.meaning c.commit_named.new.shelf) (g.met.S.Shelf.lawful c.args.shelf.now) (g.met.S.Shelf.lawful c.commit_named.new.shelf)
    (base_of c.args.config.now (Member c.args.good (g.S.Shelf.meaning c.args.shelf.now)) (g.S.Shelf.meaning c.args.shelf.now) c.requires.kept)
    (stale_tidy c.args.vol c.args.set c.args.config.now c.make_stale.new.config c.make_stale.ensures.staled (g.S.Shelf.meaning c.args.shelf.now) c.requires.tidy)
    (stale_follows c.args.vol c.args.set c.args.config.now c.make_stale.new.config c.make_stale.ensures.staled c.requires.left (wanted_sound (g.S.Shelf.meaning c.args.shelf.now).units (g.S.Shelf.meaning c.args.shelf.now).size c.args.config.now c.requires.wanted) c.requires.on).serial
    (sees_of c.args.config.now (Member c.args.good (g.S.Shelf.meaning c.args.shelf.now)) (g.S.Shelf.meaning c.args.shelf.now) c.requires.kept) c.commit_named.ensures.begins.moves.units c.commit_named.ensures.begins.moves.size c.commit_named.ensures.begins.moves.tells
    c.in-Ok.ensures.ends

pub returns-in-Err-clause-trusts : goal.returns-in-Err-clause-trusts
returns-in-Err-clause-trusts g c =
    trust_left c.args.good c.args.config.now c.make_stale.new.config c.commit_named.new.config (g.S.Shelf.meaning c.args.shelf.now) (g.S.Shelf.meaning c.commit_named.new.shelf) (g.met.S.Shelf.lawful c.args.shelf.now) (g.met.S.Shelf.lawful c.commit_named.new.shelf)
    (base_of c.args.config.now (Member c.args.good (g.S.Shelf.meaning c.args.shelf.now)) (g.S.Shelf.meaning c.args.shelf.now) c.requires.kept)
    (stale_tidy c.args.vol c.args.set c.args.config.now c.make_stale.new.config c.make_stale.ensures.staled (g.S.Shelf.meaning c.args.shelf.now) c.requires.tidy)
    (stale_follows c.args.vol c.args.set c.args.config.now c.make_stale.new.config c.make_stale.ensures.staled c.requires.left (wanted_sound (g.S.Shelf.meaning c.args.shelf.now).units (g.S.Shelf.meaning c.args.shelf.now).size c.args.config.now c.requires.wanted) c.requires.on).serial
    (sees_of c.args.config.now (Member c.args.good (g.S.Shelf.meaning c.args.shelf.now)) (g.S.Shelf.meaning c.args.shelf.now) c.requires.kept) c.commit_named.ensures.begins.moves.units c.commit_named.ensures.begins.moves.size c.commit_named.ensures.begins.moves.tells
    c.commit_named.new.config.serial c.commit_named.ensures.finds

pub returns-in-Ok-clause-finds : goal.returns-in-Ok-clause-finds
returns-in-Ok-clause-finds g c =
    subst (λ (a : Config). FindsFrom (IsTryOf a) (g.S.Shelf.meaning c.args.shelf.now) (g.S.Shelf.meaning c.commit_named.new.shelf)) c.make_stale.ensures.staled
    (tried_finds c.args.good c.args.config.now c.make_stale.new.config c.commit_named.new.config (g.S.Shelf.meaning c.args.shelf.now) (g.S.Shelf.meaning c.commit_named.new.shelf) (g.met.S.Shelf.lawful c.args.shelf.now) (g.met.S.Shelf.lawful c.commit_named.new.shelf)
    (base_of c.args.config.now (Member c.args.good (g.S.Shelf.meaning c.args.shelf.now)) (g.S.Shelf.meaning c.args.shelf.now) c.requires.kept)
    (stale_tidy c.args.vol c.args.set c.args.config.now c.make_stale.new.config c.make_stale.ensures.staled (g.S.Shelf.meaning c.args.shelf.now) c.requires.tidy)
    (stale_follows c.args.vol c.args.set c.args.config.now c.make_stale.new.config c.make_stale.ensures.staled c.requires.left (wanted_sound (g.S.Shelf.meaning c.args.shelf.now).units (g.S.Shelf.meaning c.args.shelf.now).size c.args.config.now c.requires.wanted) c.requires.on).serial
    (sees_of c.args.config.now (Member c.args.good (g.S.Shelf.meaning c.args.shelf.now)) (g.S.Shelf.meaning c.args.shelf.now) c.requires.kept) c.commit_named.ensures.begins.moves.units c.commit_named.ensures.begins.moves.size c.commit_named.ensures.begins.moves.tells
    c.commit_named.new.config.serial c.commit_named.ensures.finds)

pub returns-in-Err-clause-finds : goal.returns-in-Err-clause-finds
returns-in-Err-clause-finds g c =
    subst (λ (a : Config). FindsFrom (IsTryOf a) (g.S.Shelf.meaning c.args.shelf.now) (g.S.Shelf.meaning c.commit_named.new.shelf)) c.make_stale.ensures.staled
    (tried_finds c.args.good c.args.config.now c.make_stale.new.config c.commit_named.new.config (g.S.Shelf.meaning c.args.shelf.now) (g.S.Shelf.meaning c.commit_named.new.shelf) (g.met.S.Shelf.lawful c.args.shelf.now) (g.met.S.Shelf.lawful c.commit_named.new.shelf)
    (base_of c.args.config.now (Member c.args.good (g.S.Shelf.meaning c.args.shelf.now)) (g.S.Shelf.meaning c.args.shelf.now) c.requires.kept)
    (stale_tidy c.args.vol c.args.set c.args.config.now c.make_stale.new.config c.make_stale.ensures.staled (g.S.Shelf.meaning c.args.shelf.now) c.requires.tidy)
    (stale_follows c.args.vol c.args.set c.args.config.now c.make_stale.new.config c.make_stale.ensures.staled c.requires.left (wanted_sound (g.S.Shelf.meaning c.args.shelf.now).units (g.S.Shelf.meaning c.args.shelf.now).size c.args.config.now c.requires.wanted) c.requires.on).serial
    (sees_of c.args.config.now (Member c.args.good (g.S.Shelf.meaning c.args.shelf.now)) (g.S.Shelf.meaning c.args.shelf.now) c.requires.kept) c.commit_named.ensures.begins.moves.units c.commit_named.ensures.begins.moves.size c.commit_named.ensures.begins.moves.tells
    c.commit_named.new.config.serial c.commit_named.ensures.finds)
