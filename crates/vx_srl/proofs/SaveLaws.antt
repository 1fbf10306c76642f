-- The write of a header, as a call of the log.
use Rattle.std.proofs.Common.{◌≡◌, ℕ, ◌+◌, ◌%◌, ◌<◌, length, take, drop, refl, sym, ◌∙◌, ap, arith}
use Rattle.std.proofs.Math.Nat.{mod-mod, zero-mod}
use Rattle.std.proofs.lemmas.List.{take-append-drop}
use Rattle.vx_srlfmt.specs.declared.header.Header.{Header}
use Rattle.vx_disk.specs.Shelf.{Meaning}
use Rattle.vx_ringlog.specs.Acts.{head_acts}
use Rattle.vx_ringlog.specs.Logs.{MayRestart, MaySave, State, behind_call}
use Rattle.vx_ringlog.specs.Ready.{after}
use Rattle.vx_ringlog.specs.Records.{era_of}
use Rattle.vx_ringio.specs.Tracks.{Arrives, Follows}
use Rattle.vx_srl.specs.Calls.{restarted_log, restarting, saved, saving}
use Rattle.vx_srl.specs.Rings.{Describes, RingGoes, LeadsTo, RingOn}
use Rattle.vx_srl.specs.Views.{Log, last_incarnation, place_after}
use Rattle.vx_srl.proofs.Shared_S1.{first_after, first_last, first_next, held_same, same_drop, same_heads}
use Rattle.vx_srl.proofs.Calling.{Makes, makes_goes, makes_leads}

-- the header that keeps all but the first n records
pub record Keeps (l : Log) (g : Header) (n : ℕ) : Type 0 where
  pub stamp : g.stamp ≡ l.header.stamp + 1
  pub era : era_of g ≡ era_of l.header
  pub low : g.low ≡ l.header.low + length (take n l.held)
  pub place : g.place ≡ place_after l.ring l.header.place (take n l.held)
  pub floor : g.floor ≡ last_incarnation l.header.floor (take n l.held)

-- the header of an emptied log
pub record Empties (l : Log) (g : Header) : Type 0 where
  pub stamp : g.stamp ≡ l.header.stamp + 1
  pub incarnation : g.incarnation ≡ l.header.incarnation
  pub run : g.run ≡ l.header.run + 1
  pub place : g.place ≡ 0
  pub floor : g.floor ≡ l.header.incarnation

next_slot : (a b : ℕ) → b ≡ a + 1 → a % 2 ≡ (b + 1) % 2
next_slot a b is = omega (arith, is)

module _ (l : Log) (g : Header) (stamp : g.stamp ≡ l.header.stamp + 1) (s : State) (m : Meaning) (on : RingOn l s m) where
  -- the block of the lesser stamp is that of the next one
  other_is : s.other ≡ g.stamp % 2
  other_is = on.describes.other ∙ ap (λ (n : ℕ). n % 2) (sym stamp)

  here_is : s.here ≡ (g.stamp + 1) % 2
  here_is = on.describes.here ∙ next_slot l.header.stamp g.stamp stamp

  acts_same : head_acts s.other g ≡ head_acts (g.stamp % 2) g
  acts_same = ap (λ (b : ℕ). head_acts b g) other_is

  below : s.header.stamp < g.stamp
  below = let same : s.header.stamp ≡ l.header.stamp = ap (λ (h : Header). h.stamp) on.describes.header in omega (arith, same, stamp)

module _ (l : Log) (g : Header) (n : ℕ) (keeps : Keeps l g n) where
  module _ (s : State) (m : Meaning) (on : RingOn l s m) where
    place_is : after s.base (take n s.held) % l.ring ≡ g.place
    place_is = first_after l s m on n ∙ sym keeps.place

    save_may : MaySave l.ring s g (take n s.held) (drop n s.held)
    save_may = record {
      split = sym (take-append-drop n s.held);
      stamp = below l g keeps.stamp s m on;
      era = keeps.era ∙ ap era_of (sym on.describes.header);
      low = keeps.low ∙ sym (first_next l s m on n);
      place = ap (λ (x : ℕ). 2 + x) (sym (mod-mod (after s.base (take n s.held)) l.ring) ∙ ap (λ (x : ℕ). x % l.ring) place_is);
      floor = keeps.floor ∙ sym (first_last l s m on n);
    }

    save_describes : Describes (saved l g n) (behind_call l.ring s (saving g n s))
    save_describes = record {
      header = refl;
      here = other_is l g keeps.stamp s m on;
      other = here_is l g keeps.stamp s m on;
      place = place_is;
      held = same_heads (drop n s.held) (drop n l.held) (same_drop n s.held l.held (held_same l s m on));
      staged = on.describes.staged;
    }

  save_makes : (m : Meaning) → Makes l (saving g n) (head_acts (g.stamp % 2) g) m
  save_makes m = record { allowed = λ s on. save_may s m on; acts_are = λ s on. acts_same l g keeps.stamp s m on }

  pub save_goes : (old new : Meaning) → Follows l.unit l.ring (head_acts (g.stamp % 2) g) old new → RingGoes l (saving g n) old new
  save_goes old new follows = makes_goes l (saving g n) (head_acts (g.stamp % 2) g) old new (save_makes old) follows

  pub save_leads : (old new : Meaning) → Arrives l.unit l.ring (head_acts (g.stamp % 2) g) old new → LeadsTo l (saving g n) (saved l g n) old new
  save_leads old new arrives = makes_leads l (saving g n) (head_acts (g.stamp % 2) g) (saved l g n) old new (save_makes old) arrives refl refl (λ s on. save_describes s old on)

module _ (l : Log) (g : Header) (empties : Empties l g) where
  module _ (s : State) (m : Meaning) (on : RingOn l s m) where
    restart_may : MayRestart s g
    restart_may = record {
      stamp = below l g empties.stamp s m on;
      incarnation = empties.incarnation ∙ ap (λ (h : Header). h.incarnation) (sym on.describes.header);
      run = let same : s.header.run ≡ l.header.run = ap (λ (h : Header). h.run) on.describes.header in omega (arith, same, empties.run);
      floor = empties.floor ∙ ap (λ (h : Header). h.incarnation) (sym on.describes.header);
    }

    restart_describes : Describes (restarted_log l g) (behind_call l.ring s (restarting g s))
    restart_describes = record {
      header = refl;
      here = other_is l g empties.stamp s m on;
      other = here_is l g empties.stamp s m on;
      place = ap (λ (x : ℕ). x % l.ring) empties.place ∙ zero-mod l.ring ∙ sym empties.place;
      held = refl;
      staged = refl;
    }

  restart_makes : (m : Meaning) → Makes l (restarting g) (head_acts (g.stamp % 2) g) m
  restart_makes m = record { allowed = λ s on. restart_may s m on; acts_are = λ s on. acts_same l g empties.stamp s m on }

  pub restart_goes : (old new : Meaning) → Follows l.unit l.ring (head_acts (g.stamp % 2) g) old new → RingGoes l (restarting g) old new
  restart_goes old new follows = makes_goes l (restarting g) (head_acts (g.stamp % 2) g) old new (restart_makes old) follows

  pub restart_leads : (old new : Meaning) → Arrives l.unit l.ring (head_acts (g.stamp % 2) g) old new → LeadsTo l (restarting g) (restarted_log l g) old new
  restart_leads old new arrives = makes_leads l (restarting g) (head_acts (g.stamp % 2) g) (restarted_log l g) old new (restart_makes old) arrives refl refl (λ s on. restart_describes s old on)
