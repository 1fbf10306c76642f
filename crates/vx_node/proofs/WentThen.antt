-- Parts of a line that settles a link, one after another.
use Rattle.std.proofs.Common.{◌≡◌, ◌∙◌, ◌++◌, ℕ, Bool, false, List, [], arith, refl, subst}
use Rattle.vx_disk.specs.declared.shelf.Shelf.{Ghosts}
use Rattle.vx_history.specs.Doubts.{Doubted, Runs}
use Rattle.vx_history.specs.declared.event.Event.{Event}
use Rattle.vx_events.specs.Fails.{Fails}
use Rattle.vx_events.specs.declared.said.Said.{Said}
use Rattle.vx_events.specs.declared.said.Said.TheVariants.{Done, Refused}
use Rattle.vx_settling.specs.Ending.{StopsAmong}
use Rattle.vx_settling.specs.Kinds.{AreSettling}
use Rattle.vx_settling.specs.Works.{CalmTold, FirstOf, SettleStops, SettleWorks, Shortens}
use Rattle.vx_settling.proofs.Working.{short_more, short_none, short_then, stop_more, stop_then, works_none, works_then}
use Rattle.vx_node.specs.Settling.{OnFor, SettlesFor, ShortFor, WentFor}
use Rattle.vx_yard.specs.Yards.{IsTold, count_of}
use Rattle.vx_node.specs.declared.going.Went.{Went}
use Rattle.vx_node.specs.declared.going.Went.TheVariants.{Ended, On, Short}
use Rattle.vx_yard.specs.declared.yard.Yard.{Yard}
use Rattle.vx_yard.proofs.ChangeSite.{rose_none}
use Rattle.vx_yard.proofs.OfSites.{all_still, all_then}
use Rattle.vx_yard.proofs.RecoverLine.{rose_then}
use Rattle.vx_yard.proofs.SettleCalls.{settle_then}
use Rattle.vx_node.proofs.SettleParts.{apart_at, still_at}

-- what is so where contents were told before is so where they still are
pub works_later : (T L : Type 0) (a b : ℕ) (d : Doubted) (xs : List Event) (e : Doubted) → (L → T) → SettleWorks T a b d xs e → SettleWorks L a b d xs e
works_later T L a b d xs e told works = record { exact = λ tells. works.exact (told tells); moves = works.moves }

-- what is so behind events that strayed no world
module _ (T : Type 0) (a b : ℕ) (d m : Doubted) (same : m.strayed ≡ d.strayed) where
  pub works_as : (xs : List Event) (e : Doubted) → SettleWorks (CalmTold T m) a b m xs e → SettleWorks (CalmTold T d) a b m xs e
  works_as xs e works = subst (λ (strayed : Bool). SettleWorks (T × (strayed ≡ false)) a b m xs e) same works

  stops_as : (xs : List Event) (fails : Fails) (said : Said) (e : Doubted) → SettleStops (CalmTold T m) a b m xs fails said e → SettleStops (CalmTold T d) a b m xs fails said e
  stops_as xs fails said e stops = subst (λ (strayed : Bool). SettleStops (T × (strayed ≡ false)) a b m xs fails said e) same stops

  short_as : (xs : List Event) (e : Doubted) → Shortens (CalmTold T m) a b m xs e → Shortens (CalmTold T d) a b m xs e
  short_as xs e short = subst (λ (strayed : Bool). Shortens (T × (strayed ≡ false)) a b m xs e) same short

module _ {R : Type 0} {g : Ghosts R} (first second : List ℕ) (a b : ℕ) where
  -- no event is done
  abbrev pub went_none : (d : Doubted) (y : Yard R g) → SettlesFor first second a b d y → OnFor first second a b d [] y y
  went_none d y serves = record {
    next = d;
    works = works_none (CalmTold (IsTold y) d) a b d serves.may;
    serves = serves;
    told = λ tells. tells;
    asked = all_still y y refl;
    called = still_at first second a b d y y serves refl;
    rose = rose_none (count_of y) (count_of y) (λ s u. omega arith);
  }

  -- memory runs out before any of these
  pub went_short : (d : Doubted) (events : List Event) (y : Yard R g) → SettlesFor first second a b d y → ShortFor a b d events y y
  went_short d events y serves = record {
    last = d;
    short = short_none (CalmTold (IsTold y) d) a b d serves.may events;
    noted = serves.noted;
    told = λ tells. tells;
    asked = all_still y y refl;
    rose = rose_none (count_of y) (count_of y) (λ s u. omega arith);
  }

  -- which events are done is known only where contents are told
  abbrev pub on_as : (d : Doubted) (xs ys : List Event) (old new : Yard R g) → (CalmTold (IsTold new) d → xs ≡ ys) → OnFor first second a b d xs old new → OnFor first second a b d ys old new
  on_as d xs ys old new same w = record {
    next = w.next;
    works = record { exact = λ tells. subst (λ (es : List Event). Runs d es w.next) (same tells) (w.works.exact tells); moves = w.works.moves };
    serves = w.serves;
    told = w.told;
    asked = w.asked;
    called = w.called;
    rose = w.rose;
  }

  -- the same of events that may be ended
  pub went_as : (d : Doubted) (xs ys : List Event) (old new : Yard R g) (r : Went) → (CalmTold (IsTold new) d → xs ≡ ys) → WentFor first second a b d xs old new r → WentFor first second a b d ys old new r
  went_as d xs ys old new On same w = on_as d xs ys old new same w
  went_as d xs ys old new (Ended why) same w = record {
    last = w.last;
    fails = w.fails;
    stops = record { exact = λ tells. subst (λ (es : List Event). StopsAmong (CalmTold (IsTold new) d) d es w.fails (Refused why) w.last) (same tells) (w.stops.exact tells); other = w.stops.other };
    sites = w.sites;
    noted = w.noted;
    told = w.told;
    asked = w.asked;
    called = w.called;
    rose = w.rose;
  }
  went_as d xs ys old new Short same w = record {
    last = w.last;
    short = record { exact = λ tells. subst (λ (es : List Event). FirstOf d es w.last) (same tells) (w.short.exact tells); moves = w.short.moves };
    noted = w.noted;
    told = w.told;
    asked = w.asked;
    rose = w.rose;
  }

  -- what ended some of them ended them and those behind
  pub went_more : (d : Doubted) (xs ys : List Event) (old new : Yard R g) (r : Went) → (r ≡ On → ⊥) → WentFor first second a b d xs old new r → WentFor first second a b d (xs ++ ys) old new r
  went_more d xs ys old new On not w = absurd (not refl)
  went_more d xs ys old new (Ended why) not w = record {
    last = w.last;
    fails = w.fails;
    stops = stop_more (CalmTold (IsTold new) d) a b d d xs ys w.fails (Refused why) w.last w.stops;
    sites = w.sites;
    noted = w.noted;
    told = w.told;
    asked = w.asked;
    called = w.called;
    rose = w.rose;
  }
  went_more d xs ys old new Short not w = record { last = w.last; short = short_more (CalmTold (IsTold new) d) a b d w.last xs ys w.short; noted = w.noted; told = w.told; asked = w.asked; rose = w.rose }

  -- events that are done, and others that are
  abbrev pub on_then : (d : Doubted) (xs ys : List Event) (old mid new : Yard R g) → (one : OnFor first second a b d xs old mid) → OnFor first second a b one.next ys mid new → OnFor first second a b d (xs ++ ys) old new
  on_then d xs ys old mid new one two = record {
    next = two.next;
    works = works_then (CalmTold (IsTold new) d) a b d one.next xs ys two.next (works_later (CalmTold (IsTold mid) d) (CalmTold (IsTold new) d) a b d xs one.next (λ t. (two.told t.0, t.1)) one.works)
        (works_as (IsTold new) a b d one.next one.works.moves.strayed ys two.next two.works);
    serves = two.serves;
    told = λ tells. one.told (two.told tells);
    asked = all_then old mid new one.asked two.asked;
    called = settle_then a b (apart_at first second a b one.next mid one.serves) Done old mid new one.called two.called;
    rose = rose_then [] (count_of old) (count_of mid) (count_of new) one.rose two.rose;
  }

  -- events that are done, and others behind them
  pub went_then : (d : Doubted) (xs ys : List Event) (old mid new : Yard R g) (r : Went) → AreSettling xs → (one : OnFor first second a b d xs old mid) → WentFor first second a b one.next ys mid new r
      → WentFor first second a b d (xs ++ ys) old new r
  went_then d xs ys old mid new On are one two = on_then d xs ys old mid new one two
  went_then d xs ys old mid new (Ended why) are one two = record {
    last = two.last;
    fails = two.fails;
    stops = stop_then (CalmTold (IsTold new) d) a b d one.next xs ys two.fails (Refused why) two.last are
        (works_later (CalmTold (IsTold mid) d) (CalmTold (IsTold new) d) a b d xs one.next (λ t. (two.told t.0, t.1)) one.works)
        (stops_as (IsTold new) a b d one.next one.works.moves.strayed ys two.fails (Refused why) two.last two.stops);
    sites = two.sites ∙ one.works.moves.sites;
    noted = two.noted;
    told = λ tells. one.told (two.told tells);
    asked = all_then old mid new one.asked two.asked;
    called = settle_then a b (apart_at first second a b one.next mid one.serves) (Refused why) old mid new one.called two.called;
    rose = rose_then two.fails (count_of old) (count_of mid) (count_of new) one.rose two.rose;
  }
  went_then d xs ys old mid new Short are one two = record {
    last = two.last;
    short = short_then (CalmTold (IsTold new) d) a b d one.next xs ys two.last (works_later (CalmTold (IsTold mid) d) (CalmTold (IsTold new) d) a b d xs one.next (λ t. (two.told t.0, t.1)) one.works)
        (short_as (IsTold new) a b d one.next one.works.moves.strayed ys two.last two.short);
    noted = two.noted;
    told = λ tells. one.told (two.told tells);
    asked = all_then old mid new one.asked two.asked;
    rose = rose_then [] (count_of old) (count_of mid) (count_of new) one.rose two.rose;
  }
