-- `kept_at`: what is read of a write that is cut.
use Rattle.std.proofs.Common.{◌∙◌, ap, length, subst, sym}
use Rattle.vx_watched.proofs.SinceLemmas.{since_none}
use Rattle.vx_grouped.specs.GroupSites.{FitsPlain, site_disks}
use Rattle.vx_grouped.specs.SiteKeeps.{PlainKept}
use Rattle.vx_diskset.proofs.GroupRising.{looked_bits, looked_lost, looked_unread}
use Rattle.vx_grouped.proofs.VolumeLemmas.{site_same}
use Rattle.vx_diskset.proofs.group_starts.kept_at.Goals as goal

pub returns-in-Ok-clause-looks : goal.returns-in-Ok-clause-looks
returns-in-Ok-clause-looks g c = λ n note up.
    looked_bits n note c.args.write.now c.args.site.now c.kept.new.self c.as_bytes-bytes.result.now c.as_bytes-bytes.ensures.bytes c.in-Ok.bits
    (subst (λ r. PlainKept n note c.args.write.now.volume c.args.write.now.block c.as_bytes-bytes.result.now c.args.site.now c.kept.new.self r) c.in-Ok.is
    (c.kept.ensures.kept n note up (c.fits.ensures.is n note up c.if-fits.true)))

pub returns-in-Err-clause-looks : goal.returns-in-Err-clause-looks
returns-in-Err-clause-looks g c = λ n note up.
    let fits = c.fits.ensures.is n note up c.if-fits.true in
    looked_unread n note c.args.write.now c.args.site.now c.kept.new.self c.as_bytes-bytes.result.now c.as_bytes-bytes.ensures.bytes c.in-Err.no
    (subst (λ xs. FitsPlain note c.args.write.now.volume c.args.write.now.block (length xs)) c.as_bytes-bytes.ensures.bytes fits)
    (subst (λ r. PlainKept n note c.args.write.now.volume c.args.write.now.block c.as_bytes-bytes.result.now c.args.site.now c.kept.new.self r) c.in-Err.is
    (c.kept.ensures.kept n note up fits))

pub returns-else-fits-clause-looks : goal.returns-else-fits-clause-looks
returns-else-fits-clause-looks g c = λ n note up.
    looked_lost n note c.args.write.now c.args.site.now up
    (λ fits.
    let long = ap (λ xs. length xs) c.as_bytes-bytes.ensures.bytes in
    let clash = sym (c.fits.ensures.all n note up (subst (λ k. FitsPlain note c.args.write.now.volume c.args.write.now.block k) (sym long) fits)) ∙ c.if-fits.false in
    cc)

pub returns-in-Ok-clause-since : goal.returns-in-Ok-clause-since
returns-in-Ok-clause-since g c = c.kept.ensures.since

pub returns-in-Err-clause-since : goal.returns-in-Err-clause-since
returns-in-Err-clause-since g c = c.kept.ensures.since

pub returns-else-fits-clause-since : goal.returns-else-fits-clause-since
returns-else-fits-clause-since g c = since_none (site_disks c.args.site.now)

pub returns-in-Ok-clause-told : goal.returns-in-Ok-clause-told
returns-in-Ok-clause-told g c = c.kept.ensures.told

pub returns-in-Err-clause-told : goal.returns-in-Err-clause-told
returns-in-Err-clause-told g c = c.kept.ensures.told

pub returns-else-fits-clause-told : goal.returns-else-fits-clause-told
returns-else-fits-clause-told g c = λ told. told

pub returns-in-Ok-clause-maps : goal.returns-in-Ok-clause-maps
returns-in-Ok-clause-maps g c = λ n note up. c.kept.ensures.maps n note up (c.fits.ensures.is n note up c.if-fits.true)

pub returns-in-Err-clause-maps : goal.returns-in-Err-clause-maps
returns-in-Err-clause-maps g c = λ n note up. c.kept.ensures.maps n note up (c.fits.ensures.is n note up c.if-fits.true)

pub returns-else-fits-clause-maps : goal.returns-else-fits-clause-maps
returns-else-fits-clause-maps g c = λ n note up own it. it

pub returns-in-Ok-clause-volumes : goal.returns-in-Ok-clause-volumes
returns-in-Ok-clause-volumes g c = c.kept.ensures.volumes

pub returns-in-Err-clause-volumes : goal.returns-in-Err-clause-volumes
returns-in-Err-clause-volumes g c = c.kept.ensures.volumes

pub returns-else-fits-clause-volumes : goal.returns-else-fits-clause-volumes
returns-else-fits-clause-volumes g c = site_same c.args.site.now
