-- The calls of a line that settles a link, part by part: each part is one at a site of the link.
use Rattle.std.proofs.Common.{◌≡◌, ◌∙◌, ◌⊎◌, inl, inr, ⊎_elim, ◌<◌, ℕ, List, length, ap, sym, subst, refl}
use Rattle.std.specs.Prelude.{Option, Some, None, slice_get, slice_set}
use Rattle.std.proofs.lemmas.Option.{slice_get_within}
use Rattle.vx_history.specs.Events.{packet_at}
use Rattle.vx_history.specs.World.{DataAck, Hello, Message, NetAck, Packet, Update, World}
use Rattle.vx_disk.specs.Causes.{OnDisks}
use Rattle.vx_disk.specs.Disks.{Disks}
use Rattle.vx_disk.specs.declared.shelf.Shelf.{Ghosts}
use Rattle.vx_disk.specs.Spends.{Passed}
use Rattle.vx_events.proofs.Places.{some_same}
use Rattle.vx_events.specs.declared.said.Said.{Said}
use Rattle.vx_events.specs.declared.said.Said.TheVariants.{Done, DoneAt, Logged, Refused}
use Rattle.vx_diskset.specs.Asked.{LeavesFuse, disks_told, size_in}
use Rattle.vx_diskset.specs.Burning.{NoMore}
use Rattle.vx_diskset.specs.declared.disk_set.DiskSet.{DiskSet}
use Rattle.vx_diskset.proofs.HeadCalls.{head_none}
use Rattle.vx_diskset.proofs.ThenUnder.{then_leaves}
use Rattle.vx_yard.specs.BothSites.{BothSites, SettleBurns}
use Rattle.vx_yard.specs.OfSites.{DeliverCalls, HandedCalls, OfSite, PacketCalls}
use Rattle.vx_yard.specs.declared.yard.Yard.{Yard}
use Rattle.vx_yard.proofs.BothSites.{OnTwo, at_first, at_second, both_still, set_apart}
use Rattle.vx_yard.proofs.Lists.{get-set_other, get-set_same, length-set, set_twice}

passes : (size : ℕ → ℕ) (o n : Option Disks) → OnDisks o n (λ x y. Passed x y × NoMore x y) → OnDisks o n Passed
passes size None None on = tt
passes size None (Some n) on = absurd on
passes size (Some o) None on = absurd on
passes size (Some o) (Some n) on = (on.0.0, on.1)

-- two places that are set twice
set_four : {A : Type 0} (xs : List A) (p s : ℕ) (u v x y : A) → (p ≡ s → ⊥) → slice_set (slice_set (slice_set (slice_set xs p u) s v) p x) s y ≡ slice_set (slice_set xs p x) s y
set_four xs p s u v x y apart =
    ap (λ ys. slice_set ys s y) (set_apart (slice_set xs p u) s p v x (λ e. apart (sym e)) ∙ ap (λ ys. slice_set ys s v) (set_twice xs p u x))
    ∙ set_twice (slice_set xs p x) s v y

module _ {R : Type 0} {g : Ghosts R} where
  none : (e : DiskSet R g) → LeavesFuse NoMore Done e e
  none e = (head_none e).burns

  -- calls at the first site alone, or at the second
  burns_first : (said : Said) (a c b : DiskSet R g) → LeavesFuse NoMore said a c → SettleBurns said a c b b
  burns_first (DoneAt number) a c b calls = (record { told = passes (size_in a) (disks_told a) (disks_told c) calls.told; sizes = calls.sizes }, none b)
  burns_first (Logged number) a c b calls = (record { told = passes (size_in a) (disks_told a) (disks_told c) calls.told; sizes = calls.sizes }, none b)
  burns_first (Refused why) a c b calls = inl (calls, none b)
  burns_first other a c b calls = (record { told = calls.told; sizes = calls.sizes }, none b)

  burns_second : (said : Said) (a b c : DiskSet R g) → LeavesFuse NoMore said b c → SettleBurns said a a b c
  burns_second (DoneAt number) a b c calls = (none a, record { told = passes (size_in b) (disks_told b) (disks_told c) calls.told; sizes = calls.sizes })
  burns_second (Logged number) a b c calls = (none a, record { told = passes (size_in b) (disks_told b) (disks_told c) calls.told; sizes = calls.sizes })
  burns_second (Refused why) a b c calls = inr (none a, calls)
  burns_second other a b c calls = (none a, record { told = calls.told; sizes = calls.sizes })

  -- calls that passed, and then others
  burns_then : (said : Said) (a a' b b' c d : DiskSet R g) → SettleBurns Done a a' b b' → SettleBurns said a' c b' d → SettleBurns said a c b d
  burns_then (Refused why) a a' b b' c d one two = ⊎_elim
      (λ (first : LeavesFuse NoMore (Refused why) a' c × LeavesFuse NoMore Done b' d). inl (then_leaves (Refused why) a a' c one.0 first.0, then_leaves Done b b' d one.1 first.1))
      (λ (second : LeavesFuse NoMore Done a' c × LeavesFuse NoMore (Refused why) b' d). inr (then_leaves Done a a' c one.0 second.0, then_leaves (Refused why) b b' d one.1 second.1)) two
  burns_then other a a' b b' c d one two = (then_leaves Done a a' c one.0 two.0, then_leaves Done b b' d one.1 two.1)

  -- one after the other at two sites
  both_then : (One Two Both : OnTwo R g) (p s : ℕ) (old mid new : Yard R g) → (p ≡ s → ⊥) → BothSites One p s old mid → BothSites Two p s mid new
      → ((a a' b b' c d : DiskSet R g) → One a a' b b' → Two a' c b' d → Both a c b d) → BothSites Both p s old new
  both_then One Two Both p s old mid new apart one two join =
      let xs : List (DiskSet R g) = old.disk_sets.items in
      let ys : List (DiskSet R g) = slice_set xs p one.first_new in
      let first : slice_get mid.disk_sets.items p ≡ Some one.first_new =
      ap (λ es. slice_get es p) one.disk_sets ∙ get-set_other ys s p one.second_new apart ∙ get-set_same xs p one.first_new (slice_get_within xs p one.first one.there) in
      let second : slice_get mid.disk_sets.items s ≡ Some one.second_new =
      ap (λ es. slice_get es s) one.disk_sets
      ∙ get-set_same ys s one.second_new (subst (λ (k : ℕ). s < k) (sym (length-set xs p one.first_new)) (slice_get_within xs s one.second one.there_too)) in
      let here : two.first ≡ one.first_new = some_same (sym two.there ∙ first) in
      let there : two.second ≡ one.second_new = some_same (sym two.there_too ∙ second) in
      record {
        first = one.first;
        first_new = two.first_new;
        second = one.second;
        second_new = two.second_new;
        there = one.there;
        there_too = one.there_too;
        disk_sets = two.disk_sets
            ∙ ap (λ es. slice_set (slice_set es p two.first_new) s two.second_new) one.disk_sets
            ∙ set_four xs p s one.first_new one.second_new two.first_new two.second_new apart;
        did = join one.first one.first_new one.second one.second_new two.first_new two.second_new one.did
            (subst (λ (e : DiskSet R g). Two e two.first_new one.second_new two.second_new) here (subst (λ (e : DiskSet R g). Two two.first two.first_new e two.second_new) there two.did));
      }

  abbrev Rests : OnTwo R g
  Rests a a' b b' = (a' ≡ a) × (b' ≡ b)

  module _ (p s : ℕ) (apart : p ≡ s → ⊥) where
    -- calls that passed, and then others
    pub settle_then : (said : Said) (old mid new : Yard R g) → BothSites (SettleBurns Done) p s old mid → BothSites (SettleBurns said) p s mid new → BothSites (SettleBurns said) p s old new
    settle_then said old mid new one two = both_then (SettleBurns Done) (SettleBurns said) (SettleBurns said) p s old mid new apart one two (burns_then said)

    module _ (old new : Yard R g) (below : p < length old.disk_sets.items) (below_too : s < length old.disk_sets.items) where
      rests : BothSites Rests p s old old
      rests = both_still Rests p s old below below_too (λ a b. (refl, refl))

      -- nothing was done
      pub settle_still : new.disk_sets.items ≡ old.disk_sets.items → BothSites (SettleBurns Done) p s old new
      settle_still same =
          let both : BothSites (SettleBurns Done) p s old old = both_still (SettleBurns Done) p s old below below_too (λ a b. (none a, none b)) in
          record {
            first = both.first;
            first_new = both.first_new;
            second = both.second;
            second_new = both.second_new;
            there = both.there;
            there_too = both.there_too;
            disk_sets = same ∙ both.disk_sets;
            did = both.did;
          }

      -- a part at the first site
      pub settle_first : (said : Said) → OfSite (LeavesFuse NoMore said) p old new → BothSites (SettleBurns said) p s old new
      settle_first said of =
          at_first Rests (SettleBurns said) (LeavesFuse NoMore said) p s apart old old new rests of
          (λ a a' b b' c did calls. subst (λ (e : DiskSet R g). SettleBurns said a c b e) (sym did.1) (burns_first said a c b (subst (λ (e : DiskSet R g). LeavesFuse NoMore said e c) did.0 calls)))

      -- or at the second
      pub settle_second : (said : Said) → OfSite (LeavesFuse NoMore said) s old new → BothSites (SettleBurns said) p s old new
      settle_second said of =
          at_second Rests (SettleBurns said) (LeavesFuse NoMore said) p s apart old old new rests of
          (λ a a' b b' c did calls. subst (λ (e : DiskSet R g). SettleBurns said a e b c) (sym did.0) (burns_second said a b c (subst (λ (e : DiskSet R g). LeavesFuse NoMore said e c) did.1 calls)))

  -- a packet that is delivered is one at its target
  pub packet_burns : (w : World) (number : ℕ) (q : Packet) (said : Said) (old new : Yard R g) → packet_at w.packets number ≡ Some q → q.target < w.sites → DeliverCalls w number (packet_at w.packets number) said old new
      → OfSite (LeavesFuse NoMore said) q.target old new
  packet_burns w number q said old new at below calls =
      let packet : PacketCalls w number q said old new = subst (λ (o : Option Packet). DeliverCalls w number o said old new) at calls in
      by q.message (packet.some below)
    where
      by : (m : Message) → HandedCalls w number q m said old new → OfSite (LeavesFuse NoMore said) q.target old new
      by (Hello session greeted stored) of = record { before = of.before; after = of.after; there = of.there; disk_sets = of.disk_sets; did = of.did.burns }
      by (Update k x) of = record { before = of.before; after = of.after; there = of.there; disk_sets = of.disk_sets; did = of.did.1 }
      by (NetAck session taken) of = record { before = of.before; after = of.after; there = of.there; disk_sets = of.disk_sets; did = of.did.burns }
      by (DataAck taken) of = record { before = of.before; after = of.after; there = of.there; disk_sets = of.disk_sets; did = of.did.burns }
