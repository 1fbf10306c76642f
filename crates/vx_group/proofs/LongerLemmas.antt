-- A configuration with a volume more.
use Rattle.std.proofs.Common.{◌≡◌, inl, inr, ℕ, zero, suc, ◌+◌, ◌<◌, ◌≤◌, Bool, true, false, IsTrue, Option, List, [], ◌∷◌, length, refl, ap, sym, ◌∙◌, arith}
use Rattle.std.specs.Prelude.{◌&&◌, ◌==◌, map, nat_le, slice_get}
use Rattle.std.specs.List.{list_all}
use Rattle.std.proofs.lemmas.Bool.{and_parts, cases_eq, cases_lt, eqb-true}
use Rattle.std.proofs.lemmas.List.{length-append}
use Rattle.std.proofs.lemmas.Option.{slice_get_past}
use Rattle.vx_model.specs.declared.limits.TheConstants.{MOST_SUBDISKS}
use Rattle.vx_model.proofs.Lists.{get_end, get_front}
use Rattle.vx_config.specs.Checks.{are_apart, blocks_of, blocks_or_none, differ, ends_within, group_or_none, in_region, is_sound, is_volume, pairwise, runs}
use Rattle.vx_config.specs.Configs.{subdisk_count}
use Rattle.vx_config.specs.declared.config.Config.{Config}
use Rattle.vx_config.specs.declared.entry.DiskEntry.{DiskEntry}
use Rattle.vx_config.specs.declared.entry.Subdisk.{Subdisk}
use Rattle.vx_config.specs.declared.entry.VolumeEntry.{VolumeEntry}
use Rattle.vx_config.specs.declared.entry.VolumeLog.{VolumeLog}
use Rattle.vx_copies.specs.Bodies.{have_blocks}
use Rattle.vx_layout.specs.Made.{made_plex, with_volume}
use Rattle.vx_layout.specs.Places.{place, place_or, plex_in}
use Rattle.vx_volume.specs.Plexes.{SomeActive, active, active_or}
use Rattle.vx_kept.specs.Choice.{chosen, live, live_or}
use Rattle.vx_kept.specs.Keeping.{AllOn, Extends, MayBeNext, frame_or, frame_at}
use Rattle.vx_kept.specs.LogRuns.{log_trusted}
use Rattle.vx_kept.proofs.Narrower.{sound_chosen}
use Rattle.vx_kept.proofs.RunLemmas.{run_same, trust_from}
use Rattle.vx_maplog.specs.Logs.{log_in, log_of, log_or, used_or}

module _ (c : Config) (v : VolumeEntry) where
  abbrev more : Config
  more = with_volume c v

  pub longer_count : length more.volumes ≡ length c.volumes + 1
  longer_count = let long = length-append c.volumes (v ∷ []) in omega (arith, long)

  pub blocks_more : (w : ℕ) → w < length c.volumes → blocks_of more.volumes w ≡ blocks_of c.volumes w
  blocks_more w lt = ap blocks_or_none (get_front c.volumes (v ∷ []) w lt)

  pub blocks_last : blocks_of more.volumes (length c.volumes) ≡ v.blocks
  blocks_last = ap blocks_or_none (get_end c.volumes v)

  pub place_more : (w p b : ℕ) → w < length c.volumes → place more w p b ≡ place c w p b
  unfolding place
  place_more w p b lt = ap (λ (o : Option VolumeEntry). place_or o p b) (get_front c.volumes (v ∷ []) w lt)

  pub active_more : (w p : ℕ) → w < length c.volumes → active more w p ≡ active c w p
  unfolding active
  active_more w p lt = ap (λ (o : Option VolumeEntry). active_or (plex_in o p)) (get_front c.volumes (v ∷ []) w lt)

  pub live_more : (w p : ℕ) → w < length c.volumes → live more w p ≡ live c w p
  unfolding live
  live_more w p lt = ap (λ (o : Option VolumeEntry). live_or (plex_in o p)) (get_front c.volumes (v ∷ []) w lt)

  pub logs_more : (w : ℕ) (log : VolumeLog) → w < length c.volumes → log_of more w log ≡ log_of c w log
  logs_more w log lt = ap (log_or log) (get_front c.volumes (v ∷ []) w lt)

  pub frames_more : (w : ℕ) → w < length c.volumes → frame_at more w ≡ frame_at c w
  frames_more w lt = ap frame_or (get_front c.volumes (v ∷ []) w lt)

  -- no log of the last volume is trusted
  abbrev LogsLost : Type 0
  LogsLost = (log : VolumeLog) → used_or (log_in log v) ≡ false

  beyond_more : LogsLost → (w : ℕ) (log : VolumeLog) → length c.volumes ≤ w → log_trusted more w log ≡ false
  unfolding log_trusted
  beyond_more lost w log past = elim (cases_eq w (length c.volumes)) [
    | inl at ↦ ap (λ (x : ℕ). used_or (log_or log (slice_get more.volumes x))) at ∙ ap (λ (o : Option VolumeEntry). used_or (log_or log o)) (get_end c.volumes v) ∙ lost log
    | inr other ↦ ap (λ (o : Option VolumeEntry). used_or (log_or log o)) (slice_get_past more.volumes w (omega (arith, longer_count, past, other)))
  ]

  -- each plex of the last volume that takes part is ACTIVE
  abbrev PlexesOn : Type 0
  PlexesOn = (p : ℕ) → IsTrue (live_or (slice_get v.plexes p)) → IsTrue (active_or (slice_get v.plexes p))

  fresh_more : PlexesOn → (w p : ℕ) → length c.volumes ≤ w → IsTrue (live more w p) → IsTrue (active more w p)
  unfolding live active
  fresh_more here w p past is = elim (cases_eq w (length c.volumes)) [
    | inl at ↦ ap (λ (x : ℕ). active_or (plex_in (slice_get more.volumes x) p)) at ∙ ap (λ (o : Option VolumeEntry). active_or (plex_in o p)) (get_end c.volumes v)
        ∙ here p (sym (ap (λ (x : ℕ). live_or (plex_in (slice_get more.volumes x) p)) at ∙ ap (λ (o : Option VolumeEntry). live_or (plex_in o p)) (get_end c.volumes v)) ∙ is)
    | inr other ↦ absurd (let none : live_or (plex_in (slice_get more.volumes w) p) ≡ false = ap (λ (o : Option VolumeEntry). live_or (plex_in o p)) (slice_get_past more.volumes w (omega (arith, longer_count, past, other))) in
        let clash : false ≡ true = sym none ∙ is in cc)
  ]

  pub longer_extends : LogsLost → PlexesOn → Extends more c
  longer_extends lost here = record {
    volumes = omega (arith, longer_count);
    frames = frames_more;
    blocks = blocks_more;
    place = place_more;
    logs = λ w log lt. run_same more c w w log (logs_more w log lt);
    trusted = λ w log lt is. trust_from more c w w log (logs_more w log lt) is;
    beyond = beyond_more lost;
    fresh = fresh_more here;
  }

  module _ (on : AllOn c) (here : PlexesOn) where
    pub longer_on : AllOn more
    longer_on = record {
      each = λ w p is. elim (cases_lt w (length c.volumes)) [
        | inl lt ↦ active_more w p lt ∙ on.each w p (sym (live_more w p lt) ∙ is)
        | inr past ↦ fresh_more here w p past is
      ];
    }

    module _ (sound : is_sound more ≡ true) where
      pub longer_follows : LogsLost → MayBeNext c more
      longer_follows lost = record {
        shape = longer_extends lost here;
        serial = refl;
        narrows = λ w p lt is. on.each w p (sym (live_more w p lt) ∙ is);
        some = λ w lt. (chosen more w, sound_chosen more sound w lt);
      }

      pub last_some : SomeActive more (length c.volumes)
      last_some = record {
        plex = chosen more (length c.volumes);
        is_on = longer_on.each (length c.volumes) (chosen more (length c.volumes)) (sound_chosen more sound (length c.volumes) (omega (arith, longer_count)));
      }

-- new plexes are ACTIVE
pub made_on : (xs : List (List Subdisk)) (p : ℕ) → IsTrue (live_or (slice_get (map made_plex xs) p)) → IsTrue (active_or (slice_get (map made_plex xs) p))
made_on [] p is = absurd (let clash : false ≡ true = is in cc)
made_on (x ∷ xs) zero is = refl
made_on (x ∷ xs) (suc p) is = made_on xs p is

-- ---- disks with the same blocks

within_same : (r : Subdisk) (size : ℕ → ℕ) (k : ℕ) (ds es : List DiskEntry) → have_blocks size k ds ≡ true → have_blocks size k es ≡ true → length ds ≡ length es → (u : ℕ) → ends_within r (slice_get ds u) ≡ ends_within r (slice_get es u)
within_same r size k [] [] one two same u = refl
within_same r size k [] (e ∷ es) one two same u = absurd (omega (arith, same))
within_same r size k (d ∷ ds) [] one two same u = absurd (omega (arith, same))
within_same r size k (d ∷ ds) (e ∷ es) one two same zero =
    let first : d.blocks ≡ size k = eqb-true d.blocks (size k) (and_parts (d.blocks == size k) (have_blocks size (k + 1) ds) one).0 in
    let second : e.blocks ≡ size k = eqb-true e.blocks (size k) (and_parts (e.blocks == size k) (have_blocks size (k + 1) es) two).0 in
    ap (λ (n : ℕ). nat_le 512 r.start && nat_le (r.start + r.blocks) n) (first ∙ sym second)
within_same r size k (d ∷ ds) (e ∷ es) one two same (suc u) =
    within_same r size (k + 1) ds es (and_parts (d.blocks == size k) (have_blocks size (k + 1) ds) one).1 (and_parts (e.blocks == size k) (have_blocks size (k + 1) es) two).1 (omega (arith, same)) u

all_within : (size : ℕ → ℕ) (ds es : List DiskEntry) → have_blocks size 0 ds ≡ true → have_blocks size 0 es ≡ true → length ds ≡ length es → (rs : List Subdisk) → list_all (in_region ds) rs ≡ list_all (in_region es) rs
all_within size ds es one two same [] = refl
all_within size ds es one two same (r ∷ rs) =
    ap (λ (b : Bool). b && list_all (in_region ds) rs) (within_same r size 0 ds es one two same r.disk)
    ∙ ap (λ (b : Bool). in_region es r && b) (all_within size ds es one two same rs)

pub sound_disks : (c : Config) (size : ℕ → ℕ) (ds : List DiskEntry) → have_blocks size 0 c.disks ≡ true → have_blocks size 0 ds ≡ true → length ds ≡ length c.disks → is_sound c ≡ true → is_sound (record { serial = c.serial; site = c.site; disks = ds; volumes = c.volumes; rvg = c.rvg }) ≡ true
unfolding is_sound runs
sound_disks c size ds one two same sound =
    ap (λ (b : Bool). nat_le (subdisk_count c) MOST_SUBDISKS && (b && pairwise are_apart (runs c)) && pairwise differ c.volumes && list_all is_volume c.volumes && group_or_none c.volumes c.rvg)
    (all_within size ds c.disks two one same (runs c)) ∙ sound
