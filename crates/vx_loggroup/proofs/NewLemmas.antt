-- Maps of missed regions that begin in a call, and the maps of a volume as a list has them.
use Rattle.std.proofs.Common.{◌≡◌, ◌∙◌, ℕ, ◌<◌, Option, Some, None, List, refl, sym, ap, subst, arith}
use Rattle.std.specs.Prelude.{not, slice_get}
use Rattle.std.proofs.Math.ListN.{set}
use Rattle.std.proofs.lemmas.Option.{slice_get_within}
use Rattle.vx_config.specs.Checks.{blocks_of, plexes_of}
use Rattle.vx_config.specs.declared.config.Config.{Config}
use Rattle.vx_disk.specs.Shelf.{Meaning}
use Rattle.vx_fmr.specs.Missed.{Missed, has_missed}
use Rattle.vx_group.specs.declared.group_core.GroupCore.{GroupCore}
use Rattle.vx_group.proofs.HoldLemmas.{wide_shape}
use Rattle.vx_grouplogs.specs.Mapping.{AreBegun}
use Rattle.vx_grouplogs.proofs.LogShape.{same_count}
use Rattle.vx_logs.specs.declared.logs.Logs.{Logs}
use Rattle.vx_model.specs.Sizes.{regions_of}
use Rattle.vx_volume.specs.Plexes.{active}
use Rattle.vx_loggroup.specs.Attaching.{fmr_at, fmr_or}
use Rattle.vx_loggroup.specs.Fresh.{ListMaps, LogsFirst, LogsStart, NewMaps}
use Rattle.vx_loggroup.specs.Moving.{IsThere, missed_by, missed_in}
use Rattle.vx_loggroup.proofs.SetLemmas.{item_at, set_here}

-- ---- the maps of a volume

-- the logs of a volume that has maps
pub record HasMaps (ls : List Logs) (v : ℕ) (f : Missed) : Type 0 where
  pub logs : Logs
  pub at : slice_get ls v ≡ Some logs
  pub has : logs.fmr ≡ Some f

pub has_maps : (ls : List Logs) (v : ℕ) (f : Missed) → fmr_at ls v ≡ Some f → HasMaps ls v f
has_maps ls v f is = by (slice_get ls v) refl is
  where
    by : (o : Option Logs) → slice_get ls v ≡ o → fmr_or o ≡ Some f → HasMaps ls v f
    by None at is = absurd (let clash : None ≡ Some f = is in cc)
    by (Some l) at is = record { logs = l; at = at; has = is }

pub maps_at : (ls : List Logs) (v : ℕ) (l : Logs) → slice_get ls v ≡ Some l → fmr_at ls v ≡ l.fmr
maps_at ls v l at = ap fmr_or at

same_maps : (o : Option Missed) (f g : Missed) → o ≡ Some f → o ≡ Some g → f ≡ g
same_maps o f g one two = let both : Some f ≡ Some g = sym one ∙ two in cc

-- ---- maps that begin

pub news_gone : (c : Config) (v : ℕ) (l k : Logs) → k.fmr ≡ None → NewMaps c v l k
news_gone c v l k none = record { begun = λ off. record { each = λ f at p r low lt. absurd (let clash : None ≡ Some f = sym none ∙ at in cc) } }

pub news_same : (c : Config) (v : ℕ) (l : Logs) → NewMaps c v l l
news_same c v l = record { begun = λ none. record { each = λ f at p r low lt. absurd (let clash : None ≡ Some f = sym none ∙ at in cc) } }

-- by a configuration in which each plex is in the same state
begun_back : (c d : Config) (v : ℕ) (l : Logs) → plexes_of d v ≡ plexes_of c v → blocks_of d.volumes v ≡ blocks_of c.volumes v → ((p : ℕ) → active d v p ≡ active c v p) → AreBegun d v l → AreBegun c v l
begun_back c d v l count blocks still it = record {
  each = λ f at p r low lt. it.each f at p r (subst (λ (n : ℕ). p < n) (sym count) low) (subst (λ (n : ℕ). r < regions_of n) (sym blocks) lt) ∙ ap not (still p);
}

news_then : (c d : Config) (v : ℕ) (l k j : Logs) → plexes_of d v ≡ plexes_of c v → blocks_of d.volumes v ≡ blocks_of c.volumes v → ((p : ℕ) → active d v p ≡ active c v p) → ((f : Missed) → k.fmr ≡ Some f → j.fmr ≡ Some f) → NewMaps c v l k → NewMaps d v k j → NewMaps c v l j
news_then c d v l k j count blocks still kept one two = record { begun = λ none. by k.fmr refl none }
  where
    by : (o : Option Missed) → k.fmr ≡ o → l.fmr ≡ None → AreBegun c v j
    by None is none = begun_back c d v j count blocks still (two.begun is)
    by (Some f) is none = record {
      each = λ g at p r low lt. subst (λ (x : Missed). has_missed x p r ≡ not (active c v p)) (same_maps j.fmr f g (kept f is) at) ((one.begun none).each f is p r low lt);
    }

module _ (v : ℕ) (c d : GroupCore) (m m' : Meaning) (begins : LogsStart v c d m m') where
  pub start_blocks : blocks_of d.inner.config.volumes v ≡ blocks_of c.inner.config.volumes v
  start_blocks = let old = (wide_shape c).blocks v in let new = (wide_shape d).blocks v in let size = begins.goes.size v in omega (arith, old, new, size)

  pub start_count : plexes_of d.inner.config v ≡ plexes_of c.inner.config v
  start_count = same_count c.inner.config d.inner.config v (begins.loses.loses.frames v) start_blocks

  pub news_start : (l k j : Logs) → ((f : Missed) → k.fmr ≡ Some f → j.fmr ≡ Some f) → NewMaps c.inner.config v l k → NewMaps d.inner.config v k j → NewMaps c.inner.config v l j
  news_start l k j kept one two = news_then c.inner.config d.inner.config v l k j start_count start_blocks (begins.still v) kept one two

-- ---- the same in the list

pub list_same : (c : Config) (v : ℕ) (ls : List Logs) → ListMaps c v ls ls
list_same c v ls = record { here = λ l k one two. subst (λ (x : Logs). NewMaps c v l x) (same_logs (slice_get ls v) l k one two) (news_same c v l) }
  where
    same_logs : (o : Option Logs) (l k : Logs) → o ≡ Some l → o ≡ Some k → l ≡ k
    same_logs o l k one two = let both : Some l ≡ Some k = sym one ∙ two in cc

pub list_set : (c : Config) (v : ℕ) (ls : List Logs) (l k : Logs) → slice_get ls v ≡ Some l → NewMaps c v l k → ListMaps c v ls (set ls v k)
list_set c v ls l k at news = record {
  here = λ x y was now.
      let old : l ≡ x = (let both : Some l ≡ Some x = sym at ∙ was in cc) in
      subst (λ (z : Logs). NewMaps c v x z) (set_here ls v k y now) (subst (λ (z : Logs). NewMaps c v z k) old news);
}

-- maps behind a beginning have what plexes had missed before it
pub begun_missed : (c : Config) (v n : ℕ) (ls ks : List Logs) (f : Missed) → LogsFirst v n ls ks → ListMaps c v ls ks → fmr_at ks v ≡ Some f → (p r : ℕ) → IsThere c v p r → has_missed f p r ≡ missed_in ls c v p r
begun_missed c v n ls ks f first news is p r it = by old.0.fmr refl
  where
    now : HasMaps ks v f
    now = has_maps ks v f is

    old : (l : Logs) × (slice_get ls v ≡ Some l)
    old = item_at ls v (let low = slice_get_within ks v now.logs now.at in let many = first.many in omega (arith, low, many))

    missed_old : (o : Option Missed) → old.0.fmr ≡ o → missed_in ls c v p r ≡ missed_by o (active c v p) p r
    missed_old o at = ap (λ (x : Option Missed). missed_by x (active c v p) p r) (maps_at ls v old.0 old.1 ∙ at)

    by : (o : Option Missed) → old.0.fmr ≡ o → has_missed f p r ≡ missed_in ls c v p r
    by None at = ((news.here old.0 now.logs old.1 now.at).begun at).each f now.has p r it.plex it.region ∙ sym (missed_old None at)
    by (Some g) at = ap (λ (x : Missed). has_missed x p r) (same_maps now.logs.fmr f g now.has ((first.here old.0 now.logs old.1 now.at).fmr g at)) ∙ sym (missed_old (Some g) at)
