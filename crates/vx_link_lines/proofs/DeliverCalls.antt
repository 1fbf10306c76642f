-- The calls of a packet that is delivered: none of an update, and of an answer those of a header where the link counts more as stored.
use Rattle.std.proofs.Common.{◌≡◌, ◌∙◌, ◌⊎◌, ⊎_elim, ◌<◌, ◌≤◌, ℕ, Bool, true, false, ap, sym, subst, refl, arith}
use Rattle.std.specs.Prelude.{Option, Some, Result, Ok, Err, IfOk, ltb, if◌then◌else◌}
use Rattle.std.proofs.lemmas.Bool.Decides.{nat_tests}
use Rattle.vx_model.specs.Content.{Write}
use Rattle.vx_model.specs.declared.errors.Stop.{Stop}
use Rattle.vx_model.specs.declared.errors.Stop.TheVariants.{No as StoppedBy, OutOfMemory as NoMemory}
use Rattle.vx_model.specs.declared.no.No.{No}
use Rattle.vx_history.specs.Events.{delivered, packet_at}
use Rattle.vx_history.specs.Refusals.{Outcome, says}
use Rattle.vx_history.specs.World.{DataAck, Hello, Message, NetAck, Packet, Update, World}
use Rattle.vx_history.specs.declared.event.Said.{Said as EventSaid}
use Rattle.vx_history.specs.declared.event.Said.TheVariants.{Ignored as IsIgnored, Taken as IsTaken}
use Rattle.vx_disk.specs.declared.shelf.Shelf.{Ghosts}
use Rattle.vx_events.specs.declared.said.Said.{Said}
use Rattle.vx_events.specs.declared.said.Said.TheVariants.{Done, Ignored, Refused}
use Rattle.vx_peers.specs.Answers.{is_answer}
use Rattle.vx_diskset.specs.Asked.{HeadUnder, LeavesAlone, stored_calls}
use Rattle.vx_diskset.specs.declared.disk_set.DiskSet.{DiskSet}
use Rattle.vx_diskset.proofs.AloneCalls.{alone_leaves}
use Rattle.vx_diskset.proofs.HeadCalls.{head_none}
use Rattle.vx_joins.specs.Hearings.{reply_by}
use Rattle.vx_yard.specs.Happenings.{reply_of}
use Rattle.vx_yard.specs.OfSites.{DeliverCalls, HandedCalls, OfSite, PacketCalls, TouchesNone, heard_calls}
use Rattle.vx_yard.specs.declared.yard.Yard.{Yard}

-- nothing more is stored of what nobody hears
none_more : (k : ℕ) → stored_calls k k ≡ 0
none_more k =
    let same : ltb k k ≡ false = grind (arith, nat_tests) in
    ap (λ (b : Bool). let n : ℕ = if b then 2 else 0 in n) same

pub deaf_calls : (w : World) (number site source : ℕ) → delivered w number (packet_at w.packets number) ≡ says w IsIgnored → heard_calls w number site source ≡ 0
deaf_calls w number site source is =
    ap (λ (o : Outcome). stored_calls (w.links site source).stored (o.world.links site source).stored) is ∙ none_more (w.links site source).stored

-- a refusal is no want of memory
pub never_short : (stop : Stop) (why : No) → stop ≡ StoppedBy why → (let r : Result EventSaid Stop = Err stop in r ≡ Err NoMemory) → ⊥
never_short stop why is short = let same : stop ≡ NoMemory = cc in let never : StoppedBy why ≡ NoMemory = sym is ∙ same in cc

pub never_stopped : (said : EventSaid) → (let r : Result EventSaid Stop = Ok said in r ≡ Err NoMemory) → ⊥
never_stopped said is = cc

-- there is no answer
pub no_answer : {T E : Type 0} (P : T → Type 0) (r : Result T E) (e : E) → r ≡ Err e → IfOk r P
no_answer P (Ok x) e is = absurd (cc)
no_answer P (Err k) e is = tt

-- what holds of an answer holds of it otherwise
pub if_ok_then : {T E : Type 0} (P Q : T → Type 0) (r : Result T E) → ((x : T) → P x → Q x) → IfOk r P → IfOk r Q
if_ok_then P Q (Ok x) all is = all x is
if_ok_then P Q (Err e) all is = tt

module _ {R : Type 0} {g : Ghosts R} where
  -- nobody heard it
  pub deaf_head : (k : ℕ) (e : DiskSet R g) → k ≡ 0 → HeadUnder k Ignored e e
  deaf_head k e none =
      let head = head_none e in
      subst (λ (n : ℕ). HeadUnder n Ignored e e) (sym none) (record { burns = record { told = head.burns.told; sizes = head.burns.sizes }; takes = head.takes; short = tt; works = head.works })

  -- its reply is that it was taken, or ignored
  as_reply : (k : ℕ) (x : EventSaid) (before after : DiskSet R g) → (x ≡ IsTaken) ⊎ (x ≡ IsIgnored) → HeadUnder k Done before after → HeadUnder k (reply_of x) before after
  as_reply k x before after one head = ⊎_elim
      (λ (is : x ≡ IsTaken). subst (λ (y : EventSaid). HeadUnder k (reply_of y) before after) (sym is) (record { burns = record { told = head.burns.told; sizes = head.burns.sizes }; takes = head.takes; short = tt; works = head.works }))
      (λ (is : x ≡ IsIgnored). subst (λ (y : EventSaid). HeadUnder k (reply_of y) before after) (sym is) (record { burns = record { told = head.burns.told; sizes = head.burns.sizes }; takes = head.takes; short = tt; works = head.works })) one

  pub heard_head : (k : ℕ) (x : EventSaid) (said : Said) (before after : DiskSet R g) → said ≡ reply_of x → (x ≡ IsTaken) ⊎ (x ≡ IsIgnored) → HeadUnder k Done before after → HeadUnder k said before after
  heard_head k x said before after is one head = subst (λ (s : Said). HeadUnder k s before after) (sym is) (as_reply k x before after one head)

  -- its header was refused
  pub refused_head : (k : ℕ) (stop : Stop) (why : No) (said : Said) (before after : DiskSet R g) → stop ≡ StoppedBy why → said ≡ Refused why → HeadUnder k (reply_by (let r : Result EventSaid Stop = Err stop in r)) before after
      → HeadUnder k said before after
  refused_head k stop why said before after stopped is head =
      subst (λ (s : Said). HeadUnder k s before after) (sym is) (subst (λ (x : Stop). HeadUnder k (reply_by (let r : Result EventSaid Stop = Err x in r)) before after) stopped head)

  -- it waits in memory
  pub waits_alone : (said : Said) (a b : DiskSet R g) → ((why : No) → said ≡ Refused why → ⊥) → LeavesAlone a b → TouchesNone said a b
  waits_alone said a b not alone = (alone, alone_leaves said a b not alone)

  -- ---- by the packet

  -- it goes to no site
  pub unsited_calls : (w : World) (number : ℕ) (p : Packet) (said : Said) (y : Yard R g) → packet_at w.packets number ≡ Some p → w.sites ≤ p.target → DeliverCalls w number (packet_at w.packets number) said y y
  unsited_calls w number p said y at past =
      subst (λ (o : Option Packet). DeliverCalls w number o said y y) (sym at)
      (let calls : PacketCalls w number p said y y = record { none = λ far. refl; some = λ below. absurd (omega (arith, past, below)) } in calls)

  module _ (w : World) (number : ℕ) (p : Packet) (said : Said) (old new : Yard R g) (t : ℕ) (at : packet_at w.packets number ≡ Some p) (to : p.target ≡ t) (below : t < w.sites) where
    by_message : HandedCalls w number p p.message said old new → DeliverCalls w number (packet_at w.packets number) said old new
    by_message handed =
        subst (λ (o : Option Packet). DeliverCalls w number o said old new) (sym at)
        (let calls : PacketCalls w number p said old new = record { none = λ past. absurd (omega (arith, past, below, to)); some = λ there. handed } in calls)

    -- it is of an update
    pub update_calls : (k : ℕ) (x : Write) → p.message ≡ Update k x → OfSite (TouchesNone said) t old new → DeliverCalls w number (packet_at w.packets number) said old new
    update_calls k x message alone =
        by_message (subst (λ (m : Message). HandedCalls w number p m said old new) (sym message) (subst (λ (i : ℕ). OfSite (TouchesNone said) i old new) (sym to) alone))

    -- or of an answer
    as_answer : (m : Message) → is_answer m ≡ true → OfSite (HeadUnder (heard_calls w number p.target p.source) said) p.target old new → HandedCalls w number p m said old new
    as_answer (Hello session greeted stored) answers calls = calls
    as_answer (Update k x) answers calls = absurd (let e : false ≡ true = answers in cc)
    as_answer (NetAck session taken) answers calls = calls
    as_answer (DataAck taken) answers calls = calls

    pub answer_calls : (source : ℕ) → p.source ≡ source → is_answer p.message ≡ true → OfSite (HeadUnder (heard_calls w number t source) said) t old new → DeliverCalls w number (packet_at w.packets number) said old new
    answer_calls source from answers calls =
        by_message (as_answer p.message answers
        (subst (λ (i : ℕ). OfSite (HeadUnder (heard_calls w number i p.source) said) i old new) (sym to) (subst (λ (j : ℕ). OfSite (HeadUnder (heard_calls w number t j) said) t old new) (sym from) calls)))
