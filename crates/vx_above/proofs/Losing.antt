-- How what a call makes of the configuration of a group is seen in the world, whose lines name the failed calls.
use Rattle.std.proofs.Common.{◌≡◌, ◌≢◌, ◌⊎◌, ◌∙◌, ◌<◌, ◌≤◌, ℕ, zero, suc, Bool, true, List, [], ◌∷◌, map, length, ap, sym, subst, refl, arith, inl, inr, ⊎_elim}
use Rattle.std.specs.Prelude.{Option, Some, None, Contains, option_map, slice_get}
use Rattle.std.proofs.lemmas.Option.{slice_get-map, slice_get_within}
use Rattle.vx_model.specs.declared.site.PlexState.{PlexState}
use Rattle.vx_disk.specs.Counts.{Rose}
use Rattle.vx_disk.specs.Shelf.{Meaning}
use Rattle.vx_config.specs.Changes.{Matched, changed_at, live_again, stated, with_plex, with_state}
use Rattle.vx_config.specs.Checks.{runs}
use Rattle.vx_config.specs.declared.config.Config.{Config}
use Rattle.vx_config.specs.declared.entry.DiskEntry.{DiskEntry}
use Rattle.vx_config.specs.declared.entry.PlexEntry.{PlexEntry}
use Rattle.vx_config.specs.declared.entry.VolumeEntry.{VolumeEntry}
use Rattle.vx_kept.specs.Cleans.{at_serial}
use Rattle.vx_layout.specs.Places.{plex_at}
use Rattle.vx_layout.specs.Space.{IsFound, IsSpaceShort}
use Rattle.vx_layout.specs.declared.shape.Found.{Found}
use Rattle.vx_layout.specs.declared.shape.Shape.{Shape}
use Rattle.vx_volume.specs.Plexes.{uses, uses_or}
use Rattle.vx_grouped.specs.ConfigMoves.{ConfigMoves, DiskMoves, OpensMost, OpensMoves, OpensSame, PlexMoves, PlexRose, StateMoves, VolumeMoves, VolumeRose}
use Rattle.vx_order.specs.declared.facts.VolumeFacts.{VolumeFacts}
use Rattle.vx_events.specs.Fails.{Fails}
use Rattle.vx_events.specs.GroupConfigs.{ConfigGoesBy, DiskLosesBut, PlexFails, PlexGoesBy, StateLoses, StateOpens, StateRests, VolumeFails, VolumeGoesBy, has_part, lies_on_disk, opened_again, plex_again, volume_again}
use Rattle.vx_events.specs.GroupViews.{plain_fact}

-- ---- lists, place by place

pub placed_as : {A : Type 0} (P Q : A → A → Type 0) (o p : Option A) → ((x y : A) → o ≡ Some x → p ≡ Some y → P x y → Q x y) → Matched P o p → Matched Q o p
placed_as P Q None None step it = tt
placed_as P Q None (Some y) step it = it
placed_as P Q (Some x) None step it = it
placed_as P Q (Some x) (Some y) step it = step x y refl refl it

placed_map : {A : Type 0} (f : A → A) (P Q : A → A → Type 0) (o p : Option A) → ((x y : A) → P x y → Q (f x) (f y)) → Matched P o p → Matched Q (option_map f o) (option_map f p)
placed_map f P Q None None step it = tt
placed_map f P Q None (Some y) step it = it
placed_map f P Q (Some x) None step it = it
placed_map f P Q (Some x) (Some y) step it = step x y it

at_map : {A : Type 0} (f : A → A) (P Q : A → A → Type 0) (xs ys : List A) (k : ℕ) → ((x y : A) → P x y → Q (f x) (f y)) → Matched P (slice_get xs k) (slice_get ys k) → Matched Q (slice_get (map f xs) k) (slice_get (map f ys) k)
at_map {A} f P Q xs ys k step it =
    subst (λ (o : Option A). Matched Q o (slice_get (map f ys) k)) (sym (slice_get-map f xs k))
    (subst (λ (p : Option A). Matched Q (option_map f (slice_get xs k)) p) (sym (slice_get-map f ys k))
    (placed_map f P Q (slice_get xs k) (slice_get ys k) step it))

pub same_length : {A : Type 0} (P : A → A → Type 0) (xs ys : List A) → ((k : ℕ) → Matched P (slice_get xs k) (slice_get ys k)) → length ys ≡ length xs
same_length P [] [] each = refl
same_length P [] (y ∷ ys) each = absurd (each 0)
same_length P (x ∷ xs) [] each = absurd (each 0)
same_length P (x ∷ xs) (y ∷ ys) each = ap suc (same_length P xs ys (λ k. each (suc k)))

pub same_map : {A B : Type 0} (f : A → B) (P : A → A → Type 0) → ((x y : A) → P x y → f y ≡ f x) → (xs ys : List A) → ((k : ℕ) → Matched P (slice_get xs k) (slice_get ys k)) → map f ys ≡ map f xs
same_map f P step [] [] each = refl
same_map f P step [] (y ∷ ys) each = absurd (each 0)
same_map f P step (x ∷ xs) [] each = absurd (each 0)
same_map {A} {B} f P step (x ∷ xs) (y ∷ ys) each =
    ap (λ (b : B). b ∷ map f ys) (step x y (each 0)) ∙ ap (λ (bs : List B). f x ∷ bs) (same_map f P step xs ys (λ k. each (suc k)))

-- ---- states of plexes, and disks

-- the calls that a line names have each of the first n disks whose count rose
pub record Names (s n : ℕ) (fails : Fails) (old new : Meaning) : Type 0 where
  pub many : old.units ≤ n
  pub each : (k : ℕ) → k < n → Rose (old.disk_faults k) (new.disk_faults k) → Contains fails (s, k)

uses_part : (o : Option PlexEntry) (k : ℕ) → uses_or k o ≡ has_part o k
uses_part None k = refl
uses_part (Some p) k = refl

pub plex_fails : (s n : ℕ) (fails : Fails) (old new : Meaning) → Names s n fails old new → (p : PlexEntry) → PlexRose old new p → PlexFails s fails p
plex_fails s n fails old new names p it = record { disk = it.disk; part = sym (uses_part (Some p) it.disk) ∙ it.lies; failed = names.each it.disk (omega (arith, it.below, names.many)) it.rose }

volume_fails : (s n : ℕ) (fails : Fails) (old new : Meaning) → Names s n fails old new → (v : VolumeEntry) → VolumeRose old new v → VolumeFails s fails v
volume_fails s n fails old new names v it = record { place = it.place; plex = it.plex; at = it.at; failed = plex_fails s n fails old new names it.plex it.rose }

-- what becomes of a state
pub state_loses : (s n : ℕ) (fails : Fails) (old new : Meaning) → Names s n fails old new → (v : VolumeEntry) (p : PlexEntry) (t : PlexState) → StateMoves old new v p t → StateLoses s fails v p t
state_loses s n fails old new names v p t (inl same) = inl same
state_loses s n fails old new names v p t (inr (inl lost)) = inr (inl (lost.0, plex_fails s n fails old new names p lost.1))
state_loses s n fails old new names v p t (inr (inr back)) = inr (inr (back.0, volume_fails s n fails old new names v back.1))

-- and in an import
pub state_opens : (s n : ℕ) (fails : Fails) (old new : Meaning) → Names s n fails old new → (v : VolumeEntry) (p : PlexEntry) (t : PlexState) → OpensMoves old new v p t → StateOpens s fails v p t
state_opens s n fails old new names v p t (inl same) = inl same
state_opens s n fails old new names v p t (inr (inl lost)) = inr (inl (lost.0, plex_fails s n fails old new names p lost.1))
state_opens s n fails old new names v p t (inr (inr back)) = inr (inr (back.0, volume_fails s n fails old new names v back.1))

-- and behind a deport, with what stopped cleanly taking part again
pub opens_rests : (s : ℕ) (fails : Fails) (v : VolumeEntry) (p : PlexEntry) (t : PlexState) → OpensSame v p t → StateRests s fails (volume_again v) (plex_again p) (live_again t)
opens_rests s fails v p t same = inl same

pub most_rests : (s n : ℕ) (fails : Fails) (old new : Meaning) → Names s n fails old new → fails ≢ [] → (v : VolumeEntry) (p : PlexEntry) (t : PlexState) → OpensMost old new v p t → StateRests s fails (volume_again v) (plex_again p) (live_again t)
most_rests s n fails old new names some v p t (inl same) = inl same
most_rests s n fails old new names some v p t (inr (inl lost)) =
    let it = plex_fails s n fails old new names p lost.1 in
    inr (inl (ap live_again lost.0, record { disk = it.disk; part = it.part; failed = it.failed }))
most_rests s n fails old new names some v p t (inr (inr back)) = inr (inr (back.0, ap live_again back.1, some))

disk_loses : (again : ℕ → Bool) (s n k : ℕ) (fails : Fails) (old new : Meaning) → Names s n fails old new → k < n → (a b : DiskEntry) → DiskMoves again old new k a b → DiskLosesBut (again k) s k fails a b
disk_loses again s n k fails old new names below a b it = record {
  blocks = it.blocks;
  failed = λ is. ⊎_elim (λ (was : a.failed ≡ true). inl was) (λ (rose : Rose (old.disk_faults k) (new.disk_faults k)). inr (names.each k below rose)) (it.failed is);
  stays = it.stays;
}

-- ---- configurations

module _ (By To : VolumeEntry → PlexEntry → PlexState → Type 0) (fails : Fails) where
  plex_goes : ((v : VolumeEntry) (p : PlexEntry) (t : PlexState) → By v p t → To v p t) → (v : VolumeEntry) (p q : PlexEntry) → PlexMoves (By v) p q → PlexGoesBy (To v) p q
  plex_goes step v p q it = record { subdisks = it.subdisks; state = step v p q.state it.state }

  pub volume_goes : ((v : VolumeEntry) (p : PlexEntry) (t : PlexState) → By v p t → To v p t) → (v u : VolumeEntry) → VolumeMoves By v u → VolumeGoesBy To v u
  volume_goes step v u it = record {
    name = it.name;
    blocks = it.blocks;
    ncol = it.ncol;
    width = it.width;
    prefer = it.prefer;
    drl = it.drl;
    fmr = it.fmr;
    plexes = λ k. placed_as (PlexMoves (By v)) (PlexGoesBy (To v)) (slice_get v.plexes k) (slice_get u.plexes k) (λ p q _ _ moves. plex_goes step v p q moves) (it.plexes k);
  }

  -- what a call makes of it
  pub config_goes : (again : ℕ → Bool) (s n : ℕ) (old new : Meaning) (c d : Config) → ((v : VolumeEntry) (p : PlexEntry) (t : PlexState) → By v p t → To v p t) → Names s n fails old new → length c.disks ≤ n
      → ConfigMoves again By old new c d → ConfigGoesBy To again s fails c d
  config_goes again s n old new c d step names many it = record {
    site = it.parts.site;
    rvg = it.parts.rvg;
    disks = λ k. placed_as (DiskMoves again old new k) (DiskLosesBut (again k) s k fails) (slice_get c.disks k) (slice_get d.disks k)
        (λ a b there _ moves. disk_loses again s n k fails old new names (omega (arith, many, slice_get_within c.disks k a there)) a b moves) (it.disks k);
    volumes = λ v. placed_as (VolumeMoves By) (VolumeGoesBy To) (slice_get c.volumes v) (slice_get d.volumes v) (λ x y _ _ moves. volume_goes step x y moves) (it.volumes v);
  }

  -- under another serial
  pub serial_goes : (again : ℕ → Bool) (s : ℕ) (c d : Config) → ConfigGoesBy To again s fails c d → ConfigGoesBy To again s fails (at_serial 0 c) (at_serial 0 d)
  serial_goes again s c d it = record { site = it.site; rvg = it.rvg; disks = it.disks; volumes = it.volumes }

  -- ---- behind a deport, with what stopped cleanly taking part again

  plex_opens : ((v : VolumeEntry) (p : PlexEntry) (t : PlexState) → By v p t → To (volume_again v) (plex_again p) (live_again t)) → (v : VolumeEntry) (p q : PlexEntry) → PlexMoves (By v) p q → PlexGoesBy (To (volume_again v)) (plex_again p) (plex_again q)
  plex_opens step v p q it = record { subdisks = it.subdisks; state = step v p q.state it.state }

  volume_opens : ((v : VolumeEntry) (p : PlexEntry) (t : PlexState) → By v p t → To (volume_again v) (plex_again p) (live_again t)) → (v u : VolumeEntry) → VolumeMoves By v u → VolumeGoesBy To (volume_again v) (volume_again u)
  volume_opens step v u it = record {
    name = it.name;
    blocks = it.blocks;
    ncol = it.ncol;
    width = it.width;
    prefer = it.prefer;
    drl = it.drl;
    fmr = it.fmr;
    plexes = λ k. at_map plex_again (PlexMoves (By v)) (PlexGoesBy (To (volume_again v))) v.plexes u.plexes k (plex_opens step v) (it.plexes k);
  }

  pub opened_goes : (again : ℕ → Bool) (s n : ℕ) (old new : Meaning) (c d : Config) → ((v : VolumeEntry) (p : PlexEntry) (t : PlexState) → By v p t → To (volume_again v) (plex_again p) (live_again t)) → Names s n fails old new → length c.disks ≤ n
      → ConfigMoves again By old new c d → ConfigGoesBy To again s fails (opened_again (at_serial 0 c)) (opened_again (at_serial 0 d))
  opened_goes again s n old new c d step names many it = record {
    site = it.parts.site;
    rvg = it.parts.rvg;
    disks = λ k. placed_as (DiskMoves again old new k) (DiskLosesBut (again k) s k fails) (slice_get c.disks k) (slice_get d.disks k)
        (λ a b there _ moves. disk_loses again s n k fails old new names (omega (arith, many, slice_get_within c.disks k a there)) a b moves) (it.disks k);
    volumes = λ v. at_map volume_again (VolumeMoves By) (VolumeGoesBy To) c.volumes d.volumes v (volume_opens step) (it.volumes v);
  }

-- ---- what the tests see of volumes

pub fact_moves : (By : VolumeEntry → PlexEntry → PlexState → Type 0) (v u : VolumeEntry) → VolumeMoves By v u → plain_fact u ≡ plain_fact v
fact_moves By v u it =
    ap (λ (x : List ℕ). let f : VolumeFacts = record (plain_fact u) { name = x } in f) it.name
    ∙ ap (λ (x : ℕ). let f : VolumeFacts = record (plain_fact u) { name = v.name; blocks = x } in f) it.blocks
    ∙ ap (λ (x : ℕ). let f : VolumeFacts = record (plain_fact v) { plexes = x } in f) (same_length (PlexMoves (By v)) v.plexes u.plexes it.plexes)

pub facts_move : (again : ℕ → Bool) (By : VolumeEntry → PlexEntry → PlexState → Type 0) (old new : Meaning) (c d : Config) → ConfigMoves again By old new c d → map plain_fact d.volumes ≡ map plain_fact c.volumes
facts_move again By old new c d it = same_map plain_fact (VolumeMoves By) (fact_moves By) c.volumes d.volumes it.volumes

changed_length : {A : Type 0} (f : A → A) (k : ℕ) (xs : List A) → length (changed_at f k xs) ≡ length xs
changed_length f k [] = refl
changed_length f zero (x ∷ xs) = refl
changed_length f (suc k) (x ∷ xs) = ap suc (changed_length f k xs)

changed_map : {A B : Type 0} (f : A → A) (r : A → B) → ((x : A) → r (f x) ≡ r x) → (k : ℕ) (xs : List A) → map r (changed_at f k xs) ≡ map r xs
changed_map f r same k [] = refl
changed_map {A} {B} f r same zero (x ∷ xs) = ap (λ (b : B). b ∷ map r xs) (same x)
changed_map {A} {B} f r same (suc k) (x ∷ xs) = ap (λ (bs : List B). r x ∷ bs) (changed_map f r same k xs)

-- a plex in another state is not seen
pub facts_stated : (v p : ℕ) (state : PlexState) (whole : Bool) (c : Config) → map plain_fact (stated v p state whole c).volumes ≡ map plain_fact c.volumes
facts_stated v p state whole c =
    changed_map (with_plex p state whole) plain_fact
    (λ x. ap (λ (k : ℕ). let f : VolumeFacts = record (plain_fact x) { plexes = k } in f) (changed_length (with_state state whole) p x.plexes)) v c.volumes

-- ---- other words for the same

pub found_zero : (c : Config) (want : Shape) (found : Found) → IsFound c want found → IsFound (at_serial 0 c) want found
unfolding runs
found_zero c want found it = record { many = it.many; plexes = it.plexes; logs = it.logs }

pub short_zero : (c : Config) (want : Shape) (need have : ℕ) → IsSpaceShort c want need have → IsSpaceShort (at_serial 0 c) want need have
unfolding runs
short_zero c want need have it = record { plexes = it.plexes; are = it.are; next = it.next }

pub uses_is : (c : Config) (v p k : ℕ) → uses c v p k ≡ lies_on_disk c v p k
unfolding uses
uses_is c v p k = uses_part (plex_at c v p) k

-- disks that may be held as good again, by another test
pub again_as : (By : VolumeEntry → PlexEntry → PlexState → Type 0) (first second : ℕ → Bool) (s : ℕ) (fails : Fails) (c d : Config) → ((k : ℕ) → first k ≡ second k) → ConfigGoesBy By first s fails c d → ConfigGoesBy By second s fails c d
again_as By first second s fails c d same it = record {
  site = it.site;
  rvg = it.rvg;
  disks = λ k. subst (λ (b : Bool). Matched (DiskLosesBut b s k fails) (slice_get c.disks k) (slice_get d.disks k)) (same k) (it.disks k);
  volumes = it.volumes;
}
