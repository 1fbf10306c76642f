-- How many bytes a configuration has.
use Rattle.std.proofs.Common.{◌≡◌, ◌≤◌, ℕ, ◌+◌, ◌*◌, List, [], ◌∷◌, ◌++◌, length, ap, arith, Option, Some, None, Bool}
use Rattle.std.specs.Prelude.{flat_map, sum_by, is_some}
use Rattle.std.specs.List.{AllByRecursion}
use Rattle.std.proofs.lemmas.List.{length-append}
use Rattle.std.proofs.lemmas.List.Concat.{flat_map-cons}
use Rattle.std.proofs.lemmas.List.Sums.{sum_by-cons}
use Rattle.vx_model.specs.declared.units.Units.{Units}
use Rattle.vx_wire.specs.Numbers.{be_bytes}
use Rattle.vx_wire.proofs.NumberLemmas.{length-be_bytes}
use Rattle.vx_config.specs.Configs.{spelled_config, HasSpelling, plex_subdisks, volume_subdisks, subdisk_count}
use Rattle.vx_config.specs.Forms.{Form, number, flag, flag_code, name, spell_if, FitsIf}
use Rattle.vx_config.specs.Table.{disk, subdisk, log, state_code, state, plex, preferred_number, ways, Ways, volume, units, format_1, config}
use Rattle.vx_config.specs.declared.config.Config.{Config}
use Rattle.vx_config.specs.declared.entry.DiskEntry.{DiskEntry}
use Rattle.vx_config.specs.declared.entry.LogEntry.{LogEntry}
use Rattle.vx_config.specs.declared.entry.PlexEntry.{PlexEntry}
use Rattle.vx_config.specs.declared.entry.Subdisk.{Subdisk}
use Rattle.vx_config.specs.declared.entry.VolumeEntry.{VolumeEntry}

-- values of w bytes each
length-many : {A : Type 0} (form : Form A) (w : ℕ) → ((a : A) → length (form.spell a) ≡ w) → (xs : List A) → length (flat_map form.spell xs) ≡ w * length xs
length-many form w each [] = omega arith
length-many form w each (x ∷ xs) =
    let here : length (flat_map form.spell (x ∷ xs)) ≡ length (form.spell x ++ flat_map form.spell xs) = ap length (flat_map-cons form.spell x xs) in
    omega (arith, here, length-append (form.spell x) (flat_map form.spell xs), each x, length-many form w each xs)

length-flag : (b : Bool) → length (flag.spell b) ≡ 1
unfolding flag
length-flag b = length-be_bytes 1 (flag_code b)

length-disk : (d : DiskEntry) → length (disk.spell d) ≡ 9
unfolding disk
length-disk d = omega (arith, length-append (be_bytes 8 d.blocks) (flag.spell d.failed), length-be_bytes 8 d.blocks, length-flag d.failed)

length-subdisk : (s : Subdisk) → length (subdisk.spell s) ≡ 17
unfolding subdisk
length-subdisk s =
    omega (arith, length-append (be_bytes 1 s.disk) (be_bytes 8 s.start ++ be_bytes 8 s.blocks), length-append (be_bytes 8 s.start) (be_bytes 8 s.blocks), length-be_bytes 1 s.disk, length-be_bytes 8 s.start, length-be_bytes 8 s.blocks)

length-log : (l : LogEntry) → length (log.spell l) ≡ 18
unfolding log
length-log l =
    omega (
      arith,
      length-append (flag.spell l.lost) (be_bytes 1 l.disk ++ (be_bytes 8 l.start ++ be_bytes 8 l.blocks)),
      length-append (be_bytes 1 l.disk) (be_bytes 8 l.start ++ be_bytes 8 l.blocks),
      length-append (be_bytes 8 l.start) (be_bytes 8 l.blocks),
      length-flag l.lost,
      length-be_bytes 1 l.disk,
      length-be_bytes 8 l.start,
      length-be_bytes 8 l.blocks,
    )

length-log_if : (o : Option LogEntry) → length (spell_if log o) ≤ 19
length-log_if None = omega (arith, length-be_bytes 1 0)
length-log_if (Some l) = omega (arith, length-append (be_bytes 1 1) (log.spell l), length-be_bytes 1 1, length-log l)

length-state : (p : PlexEntry) → length (state.spell p.state) ≡ 1
unfolding state
length-state p = length-be_bytes 1 (state_code p.state)

length-plex : (p : PlexEntry) → length (plex.spell p) ≡ 3 + 17 * plex_subdisks p
unfolding plex
length-plex p =
    let subs : List ℕ = flat_map subdisk.spell p.subdisks in
    let count : List ℕ = be_bytes 1 (length p.subdisks) in
    omega (
      arith,
      length-append (state.spell p.state) (flag.spell p.whole ++ (count ++ subs)),
      length-append (flag.spell p.whole) (count ++ subs),
      length-append count subs,
      length-state p,
      length-flag p.whole,
      length-be_bytes 1 (length p.subdisks),
      length-many subdisk 17 length-subdisk p.subdisks,
    )

length-plexes : (ps : List PlexEntry) → length (flat_map plex.spell ps) ≡ 3 * length ps + 17 * sum_by plex_subdisks ps
length-plexes [] = omega arith
length-plexes (p ∷ ps) =
    let here : length (flat_map plex.spell (p ∷ ps)) ≡ length (plex.spell p ++ flat_map plex.spell ps) = ap length (flat_map-cons plex.spell p ps) in
    omega (arith, here, length-append (plex.spell p) (flat_map plex.spell ps), length-plex p, length-plexes ps, sum_by-cons plex_subdisks p ps)

length-ways : (w : Ways) → length (ways.spell w) ≤ 42
unfolding ways
length-ways w =
    let logs : List ℕ = spell_if log w.1.0 ++ spell_if log w.1.1 in
    let number : List ℕ = be_bytes 1 (preferred_number w.0) in
    let policy : List ℕ = flag.spell (is_some w.0) in
    let fmr : List ℕ = flag.spell (is_some w.1.1) in
    let drl : List ℕ = flag.spell (is_some w.1.0) in
    omega (
      arith,
      length-append (drl ++ (fmr ++ policy)) (number ++ logs),
      length-append drl (fmr ++ policy),
      length-append fmr policy,
      length-append number logs,
      length-append (spell_if log w.1.0) (spell_if log w.1.1),
      length-flag (is_some w.0),
      length-flag (is_some w.1.0),
      length-flag (is_some w.1.1),
      length-be_bytes 1 (preferred_number w.0),
      length-log_if w.1.0,
      length-log_if w.1.1,
    )

length-name : (n : List ℕ) → name.Fits n → length (name.spell n) ≤ 9
unfolding name
length-name n fits = omega (arith, fits.1)

length-volume : (v : VolumeEntry) → volume.Fits v → length (volume.spell v) ≤ 830 + 17 * volume_subdisks v
unfolding volume
length-volume v fits =
    let plexes : List ℕ = flat_map plex.spell v.plexes in
    let count : List ℕ = be_bytes 1 (length v.plexes) in
    let way : List ℕ = ways.spell (v.prefer, (v.drl, v.fmr)) in
    let few : length v.plexes ≤ 255 = fits.1.1.1.1.1.1 in
    omega (
      arith,
      length-append (name.spell v.name) (be_bytes 8 v.blocks ++ (be_bytes 1 v.ncol ++ (be_bytes 4 v.width ++ (way ++ (count ++ plexes))))),
      length-append (be_bytes 8 v.blocks) (be_bytes 1 v.ncol ++ (be_bytes 4 v.width ++ (way ++ (count ++ plexes)))),
      length-append (be_bytes 1 v.ncol) (be_bytes 4 v.width ++ (way ++ (count ++ plexes))),
      length-append (be_bytes 4 v.width) (way ++ (count ++ plexes)),
      length-append way (count ++ plexes),
      length-append count plexes,
      length-name v.name fits.0,
      length-be_bytes 8 v.blocks,
      length-be_bytes 1 v.ncol,
      length-be_bytes 4 v.width,
      length-ways (v.prefer, (v.drl, v.fmr)),
      length-be_bytes 1 (length v.plexes),
      length-plexes v.plexes,
    )

length-volumes : (vs : List VolumeEntry) → AllByRecursion volume.Fits vs → length (flat_map volume.spell vs) ≤ 830 * length vs + 17 * sum_by volume_subdisks vs
length-volumes [] fits = omega arith
length-volumes (v ∷ vs) fits =
    let here : length (flat_map volume.spell (v ∷ vs)) ≡ length (volume.spell v ++ flat_map volume.spell vs) = ap length (flat_map-cons volume.spell v vs) in
    omega (arith, here, length-append (volume.spell v) (flat_map volume.spell vs), length-volume v fits.0, length-volumes vs fits.1, sum_by-cons volume_subdisks v vs)

length-units : (u : Units) → units.Fits u → length (units.spell u) ≤ 33
unfolding units
length-units u fits =
    let vols : List ℕ = flat_map (be_bytes 1) u.vols in
    let count : List ℕ = be_bytes 1 (length u.vols) in
    let few : length u.vols ≤ 30 = fits.1.1.1 in
    omega (
      arith,
      length-append (be_bytes 1 u.srl) (be_bytes 1 u.maps ++ (count ++ vols)),
      length-append (be_bytes 1 u.maps) (count ++ vols),
      length-append count vols,
      length-be_bytes 1 u.srl,
      length-be_bytes 1 u.maps,
      length-be_bytes 1 (length u.vols),
      length-many (number 1) 1 (length-be_bytes 1) u.vols,
    )

length-group : (o : Option Units) → FitsIf units o → length (spell_if units o) ≤ 34
length-group None fits = omega (arith, length-be_bytes 1 0)
length-group (Some u) fits = omega (arith, length-append (be_bytes 1 1) (units.spell u), length-be_bytes 1 1, length-units u fits)

-- a configuration with few subdisks is short
pub length-spelled : (c : Config) → HasSpelling c → subdisk_count c ≤ 1024 → length (spelled_config c) ≤ 65024
unfolding spelled_config HasSpelling config format_1
length-spelled c fits few =
    let group : List ℕ = spell_if units c.rvg in
    let volumes : List ℕ = be_bytes 1 (length c.volumes) ++ flat_map volume.spell c.volumes in
    let disks : List ℕ = be_bytes 1 (length c.disks) ++ flat_map disk.spell c.disks in
    let few_disks : length c.disks ≤ 8 = fits.1.1.0.1 in
    let few_volumes : length c.volumes ≤ 32 = fits.1.1.1.0.1 in
    omega (
      arith,
      length-append (be_bytes 4 1) (be_bytes 8 c.serial ++ (be_bytes 4 c.site ++ (disks ++ (volumes ++ group)))),
      length-append (be_bytes 8 c.serial) (be_bytes 4 c.site ++ (disks ++ (volumes ++ group))),
      length-append (be_bytes 4 c.site) (disks ++ (volumes ++ group)),
      length-append disks (volumes ++ group),
      length-append volumes group,
      length-append (be_bytes 1 (length c.volumes)) (flat_map volume.spell c.volumes),
      length-append (be_bytes 1 (length c.disks)) (flat_map disk.spell c.disks),
      length-be_bytes 4 1,
      length-be_bytes 8 c.serial,
      length-be_bytes 4 c.site,
      length-be_bytes 1 (length c.volumes),
      length-be_bytes 1 (length c.disks),
      length-many disk 9 length-disk c.disks,
      length-volumes c.volumes fits.1.1.1.0.2,
      length-group c.rvg fits.1.1.1.1,
    )
