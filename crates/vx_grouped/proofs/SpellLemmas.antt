-- A configuration that differs from one with a spelling in flags, states and serials alone has one.
use Rattle.std.proofs.Common.{◌≡◌, ℕ, suc, false, Option, Some, None, List, [], ◌∷◌, length, refl, sym, ap, subst, arith}
use Rattle.std.proofs.lemmas.Option.{same_Some}
use Rattle.std.specs.Prelude.{map, slice_get}
use Rattle.std.specs.List.{AllByRecursion}
use Rattle.vx_model.specs.declared.site.PlexState.TheVariants.{Stale}
use Rattle.vx_config.specs.Changes.{lost_as, with_state}
use Rattle.vx_config.specs.Configs.{HasSpelling}
use Rattle.vx_config.specs.Forms.{FitsIf, counted, flag as flag_form, name as name_form, optional}
use Rattle.vx_config.specs.Table.{config as config_form, disk as disk_form, format_1, log as log_form, plex as plex_form, state as state_form, subdisk as subdisk_form, units as units_form, volume as volume_form, ways as ways_form}
use Rattle.vx_config.specs.declared.config.Config.{Config}
use Rattle.vx_config.specs.declared.entry.DiskEntry.{DiskEntry}
use Rattle.vx_config.specs.declared.entry.LogEntry.{LogEntry}
use Rattle.vx_config.specs.declared.entry.PlexEntry.{PlexEntry}
use Rattle.vx_config.specs.declared.entry.VolumeEntry.{VolumeEntry}
use Rattle.vx_copies.specs.Marks.{blocks_at}
use Rattle.vx_kept.specs.Cleans.{at_serial}
use Rattle.vx_kept.specs.Keeping.{frame, frame_at, frame_or}
use Rattle.vx_kept.proofs.Frames.{heads_of}
use Rattle.vx_group.specs.Loses.{SameParts}

-- ---- disks

disk_like : (d e : DiskEntry) → e.blocks ≡ d.blocks → disk_form.Fits d → disk_form.Fits e
unfolding disk_form flag_form
disk_like d e same fits = (let low = fits.0 in omega (arith, low, same), tt)

disks_like : (ds es : List DiskEntry) → length es ≡ length ds → ((u : ℕ) → blocks_at es u ≡ blocks_at ds u) → AllByRecursion disk_form.Fits ds → AllByRecursion disk_form.Fits es
disks_like [] [] long same fits = tt
disks_like [] (e ∷ es) long same fits = absurd (omega (arith, long))
disks_like (d ∷ ds) [] long same fits = absurd (omega (arith, long))
disks_like (d ∷ ds) (e ∷ es) long same fits = (disk_like d e (same 0) fits.0, disks_like ds es (omega (arith, long)) (λ u. same (suc u)) fits.1)

-- ---- logs

log_one : (l k : LogEntry) → lost_as false (Some k) ≡ lost_as false (Some l) → log_form.Fits l → log_form.Fits k
unfolding log_form flag_form
log_one l k same fits =
    let is : record { lost = false; disk = k.disk; start = k.start; blocks = k.blocks } ≡ record { lost = false; disk = l.disk; start = l.start; blocks = l.blocks } = cc in
    let disk = ap (λ (x : LogEntry). x.disk) is in
    let start = ap (λ (x : LogEntry). x.start) is in
    let blocks = ap (λ (x : LogEntry). x.blocks) is in
    (tt, (let low = fits.1.0 in omega (arith, low, disk), (let low = fits.1.1.0 in omega (arith, low, start), let low = fits.1.1.1 in omega (arith, low, blocks))))

log_like : (o p : Option LogEntry) → lost_as false p ≡ lost_as false o → FitsIf log_form o → FitsIf log_form p
log_like None None same fits = tt
log_like None (Some k) same fits = absurd (let no_one : Some (record { lost = false; disk = k.disk; start = k.start; blocks = k.blocks }) ≡ None = same in cc)
log_like (Some l) None same fits = absurd (let no_one : None ≡ Some (record { lost = false; disk = l.disk; start = l.start; blocks = l.blocks }) = same in cc)
log_like (Some l) (Some k) same fits = log_one l k same fits

ways_like : (prefer : Option ℕ) (drl fmr drl' fmr' : Option LogEntry) → lost_as false drl' ≡ lost_as false drl → lost_as false fmr' ≡ lost_as false fmr
    → ways_form.Fits (prefer, (drl, fmr)) → ways_form.Fits (prefer, (drl', fmr'))
unfolding ways_form flag_form
ways_like prefer drl fmr drl' fmr' one two fits = (
  (tt, (tt, tt)),
  (fits.1.0, ((refl, log_like drl drl' one fits.1.1.0.1), (refl, log_like fmr fmr' two fits.1.1.1.1))),
)

-- ---- plexes

plex_like : (p q : PlexEntry) → with_state Stale false q ≡ with_state Stale false p → plex_form.Fits p → plex_form.Fits q
unfolding plex_form state_form flag_form
plex_like p q same fits = (tt, (tt, subst (λ ss. (counted 0 255 subdisk_form).Fits ss) (sym (ap (λ (e : PlexEntry). e.subdisks) same)) fits.1.1))

plexes_like : (ps qs : List PlexEntry) → map (with_state Stale false) qs ≡ map (with_state Stale false) ps → AllByRecursion plex_form.Fits ps → AllByRecursion plex_form.Fits qs × (length qs ≡ length ps)
plexes_like [] [] is fits = (tt, refl)
plexes_like [] (q ∷ qs) is fits = absurd (let no_one : with_state Stale false q ∷ map (with_state Stale false) qs ≡ [] = is in cc)
plexes_like (p ∷ ps) [] is fits = absurd (let no_one : [] ≡ with_state Stale false p ∷ map (with_state Stale false) ps = is in cc)
plexes_like (p ∷ ps) (q ∷ qs) is fits =
    let both = heads_of (with_state Stale false p) (with_state Stale false q) (map (with_state Stale false) ps) (map (with_state Stale false) qs) is in
    let rest = plexes_like ps qs both.1 fits.1 in
    ((plex_like p q both.0 fits.0, rest.0), let long = rest.1 in omega (arith, long))

-- ---- volumes

volume_like : (v u : VolumeEntry) → frame u ≡ frame v → volume_form.Fits v → volume_form.Fits u
unfolding volume_form frame
volume_like v u is fits =
    let plexes = plexes_like v.plexes u.plexes (ap (λ (x : VolumeEntry). x.plexes) is) fits.1.1.1.1.1.2 in (
      subst (λ (n : List ℕ). name_form.Fits n) (sym (ap (λ (x : VolumeEntry). x.name) is)) fits.0,
      (
        (let low = fits.1.0 in let same = ap (λ (x : VolumeEntry). x.blocks) is in omega (arith, low, same)),
        (
          (let low = fits.1.1.0 in let same = ap (λ (x : VolumeEntry). x.ncol) is in omega (arith, low, same)),
          (
            (let low = fits.1.1.1.0 in let same = ap (λ (x : VolumeEntry). x.width) is in omega (arith, low, same)),
            (
              subst (λ (o : Option ℕ). ways_form.Fits (o, (u.drl, u.fmr))) (sym (ap (λ (x : VolumeEntry). x.prefer) is))
                  (ways_like v.prefer v.drl v.fmr u.drl u.fmr (ap (λ (x : VolumeEntry). x.drl) is) (ap (λ (x : VolumeEntry). x.fmr) is) fits.1.1.1.1.0),
              ((let low = fits.1.1.1.1.1.0 in let same = plexes.1 in omega (arith, low, same)), (let high = fits.1.1.1.1.1.1 in let same = plexes.1 in omega (arith, high, same)), plexes.0),
            ),
          ),
        ),
      ),
    )

pub volumes_like : (vs us : List VolumeEntry) → ((k : ℕ) → frame_or (slice_get us k) ≡ frame_or (slice_get vs k)) → AllByRecursion volume_form.Fits vs → AllByRecursion volume_form.Fits us × (length us ≡ length vs)
volumes_like [] [] same fits = (tt, refl)
volumes_like [] (u ∷ us) same fits = absurd (let no_one : Some (frame u) ≡ None = same 0 in cc)
volumes_like (v ∷ vs) [] same fits = absurd (let no_one : None ≡ Some (frame v) = same 0 in cc)
volumes_like (v ∷ vs) (u ∷ us) same fits =
    let rest = volumes_like vs us (λ k. same (suc k)) fits.1 in
    ((volume_like v u (same_Some (frame u) (frame v) (same 0)) fits.0, rest.0), let long = rest.1 in omega (arith, long))

-- ---- configurations

pub spells_like : (c d : Config) → SameParts c d → ((v : ℕ) → frame_at d v ≡ frame_at c v) → ((u : ℕ) → blocks_at d.disks u ≡ blocks_at c.disks u) → HasSpelling (at_serial 0 c) → HasSpelling (at_serial 0 d)
unfolding HasSpelling config_form format_1
spells_like c d parts frames blocks has =
    let volumes = volumes_like c.volumes d.volumes frames has.1.1.1.0.2 in
    let long = parts.count in
    let many = volumes.1 in (
      has.0,
      (
        (let low = has.1.0 in let same = parts.site in omega (arith, low, same)),
        (
          ((let low = has.1.1.0.0 in omega (arith, low, long)), (let high = has.1.1.0.1 in omega (arith, high, long)), disks_like c.disks d.disks long blocks has.1.1.0.2),
          (
            ((let low = has.1.1.1.0.0 in omega (arith, low, many)), (let high = has.1.1.1.0.1 in omega (arith, high, many)), volumes.0),
            subst (λ o. (optional units_form).Fits o) (sym parts.rvg) has.1.1.1.1,
          ),
        ),
      ),
    )
