-- What a pump of a link makes of a site that is up.
use Rattle.std.proofs.Common.{subst, ◌≡◌, ◌∙◌, ◌+◌, ◌-◌, ◌≤◌, ℕ, Bool, true, false, List, drop, ap, sym, refl, arith, IsTrue}
use Rattle.std.specs.Prelude.{◌≢◌, ◌&&◌, None, Some, Result, Ok, Err, OnOk, OnErr, IfErr, slice_get}
use Rattle.vx_model.specs.Content.{Write}
use Rattle.vx_model.specs.declared.errors.Stop.{Stop}
use Rattle.vx_model.specs.declared.errors.Stop.TheVariants.{No as Refused, OutOfMemory}
use Rattle.vx_model.specs.declared.link.Link.{Link as PlainLink}
use Rattle.vx_model.specs.declared.link.Mode.{Mode}
use Rattle.vx_model.specs.declared.link.Mode.TheVariants.{Log, Dcm, Replay, Fork, Stale}
use Rattle.vx_model.specs.declared.no.No.TheVariants.{Damaged, Device, Down as IsOff}
use Rattle.vx_diskset.specs.Holds.{KeptBeside}
use Rattle.vx_model.specs.declared.state.State.{State}
use Rattle.vx_history.specs.KeptLinks.{kept_link, kept_mode, kept_start}
use Rattle.vx_history.specs.LinkForms.{plain_link}
use Rattle.vx_history.specs.Sending.{by_log}
use Rattle.vx_history.specs.Doubts.{Doubted}
use Rattle.vx_history.specs.World.{Link, Node, World}
use Rattle.vx_history.specs.declared.sender.Action.TheVariants.{Nothing as SendsNothing}
use Rattle.vx_history.specs.declared.sender.SEvent.TheVariants.{Pump}
use Rattle.vx_courier.specs.UnderWay.{FlightStands}
use Rattle.vx_disk.specs.Shelf.{Meaning}
use Rattle.vx_net.specs.Flights.{Flying}
use Rattle.vx_peers.specs.Senders.{LinkMoved, ReadCause, SendsFrom}
use Rattle.vx_rvg.specs.Views.{Core, last_of}
use Rattle.vx_diskset.specs.Holds.{beside_of, header_links}
use Rattle.vx_diskset.specs.Needs.{hold_of, is_needing, kept_mode_hold, mode_needs}
use Rattle.vx_diskset.specs.Pumps.{PumpStop, PumpedIs}
use Rattle.vx_peers.specs.Senders.{BlamesStop, SendsBy, pump_asks, way_from}
use Rattle.vx_model.specs.declared.history.Line.{Line}
use Rattle.vx_diskset.specs.Stands.{IsUpAt}
use Rattle.vx_diskset.specs.Shelves.{IsRackOf}
use Rattle.vx_diskset.proofs.LogDisks.{log_disk}
use Rattle.vx_diskset.proofs.NeedLemmas.{low_needed}
use Rattle.vx_diskset.proofs.StaysUp.{all_taken, never_both}

-- ---- what a link by the log needs

mode_by : (m : Mode) (stored : ℕ) → by_log m ≡ true → (mode_needs (kept_mode m) ≡ true) × (kept_mode_hold (kept_mode m) (kept_start m) stored ≤ stored)
mode_by Log stored is = (refl, omega arith)
mode_by Dcm stored is = absurd (let e : false ≡ true = is in cc)
mode_by (Replay id phase left start end) stored is = (refl, omega arith)
mode_by (Fork maps) stored is = absurd (let e : false ≡ true = is in cc)
mode_by Stale stored is = absurd (let e : false ≡ true = is in cc)

needing_by : (to : ℕ) (l : Link) → by_log l.mode ≡ true → l.attached ≡ true → (is_needing (kept_link to l) ≡ true) × (hold_of (kept_link to l) ≤ l.stored)
needing_by to l logs attached = let by = mode_by l.mode l.stored logs in (ap (λ (b : Bool). b && mode_needs (kept_mode l.mode)) attached ∙ by.0, by.1)

-- so it is there
pub never_lacks : (d : Doubted) (site to k : ℕ) (c : Core) (m : Meaning) (link : PlainLink) → IsUpAt (beside_of d site) (d.world.nodes site) c m → (d.world.nodes site).halted ≡ None → IsTrue m.tells
    → slice_get (header_links d.world site) k ≡ Some (kept_link to (d.world.links site to)) → link ≡ plain_link to (d.world.links site to) → by_log link.mode ≡ true → link.attached ≡ true → c.log.header.low ≤ link.stored + 1
never_lacks d site to k c m link up none told there is logs attached =
    let l : Link = d.world.links site to in
    let by = needing_by to l (sym (ap (λ (x : PlainLink). by_log x.mode) is) ∙ logs) (sym (ap (λ (x : PlainLink). x.attached) is) ∙ attached) in
    let low = low_needed (beside_of d site) (d.world.nodes site) c m k (hold_of (kept_link to l)) (kept_link to l) up none told there by.0 (omega arith) in
    omega (arith, low, by.1, ap (λ (x : PlainLink). x.stored) is)

-- ---- the site as the sending end of a link

pub sends_from : {beside : KeptBeside} (n : Node) (c : Core) (m : Meaning) → IsUpAt beside n c m → n.halted ≡ None → IsTrue m.tells → SendsFrom n c m
sends_from n c m up none told =
    let stood = up.content none told in
    record {
      line = ap (λ (s : State). s.line) up.kept;
      head = up.head;
      held = stood.held;
      stands = stood.stands;
      some = stood.has.some;
      writes = stood.has.writes ∙ ap (λ (xs : List Write). drop (stood.held.low - 1) xs) (all_taken n (omega (arith, up.logged, up.durable none)));
    }

pub pumped_is : (d : Doubted) (site : ℕ) (c : Core) (m new : Meaning) (link l : PlainLink) (f f' : Flying) (result : Result (Unit {0}) Stop) → IsUpAt (beside_of d site) (d.world.nodes site) c m → (d.world.nodes site).halted ≡ None → IsTrue m.tells
    → new.down ≡ m.down → link ≡ plain_link link.site (d.world.links site link.site) → FlightStands d.world.packets f
    → OnOk result ((w : World) → SendsFrom (w.nodes site) c m → IsTrue m.tells → link ≡ plain_link link.site (w.links site link.site) → FlightStands w.packets f → LinkMoved w site link.site Pump l f')
    → IfErr result (ReadCause c m new) → PumpedIs d.world site link.site l f' m.disk_faults new.disk_faults result
pumped_is d site c m new link l f f' (Ok done) up none told down is flight moved cause = moved d.world (sends_from (d.world.nodes site) c m up none told) told is flight
pumped_is d site c m new link l f f' (Err OutOfMemory) up none told down is flight moved cause = tt
pumped_is d site c m new link l f f' (Err (Refused (Device disk))) up none told down is flight moved cause = cause
pumped_is d site c m new link l f f' (Err (Refused IsOff)) up none told down is flight moved cause = absurd (never_both new.down cause (down ∙ up.up))
pumped_is d site c m new link l f f' (Err (Refused (Damaged unit block stored computed))) up none told down is flight moved cause =
    let stood = up.content none told in absurd (cause stood.held stood.stands told)
pumped_is d site c m new link l f f' (Err (Refused other)) up none told down is flight moved cause = absurd cause

-- whether contents are told or not
pub pump_stops : {beside : KeptBeside} (n : Node) (c : Core) (m new : Meaning) (l : PlainLink) (result : Result (Unit {0}) Stop) → IsUpAt beside n c m → c.log.unit ≡ c.units.srl → IsRackOf n m → new.down ≡ m.down → IfErr result (ReadCause c m new)
    → OnErr result (pump_asks l (last_of c) ≢ SendsNothing) → IfErr result (BlamesStop m.disks c.log.unit) → IfErr result (PumpStop n (pump_asks l n.safe) m.disk_faults new.disk_faults)
pump_stops n c m new l (Ok done) up place rack down cause asks blames = tt
pump_stops n c m new l (Err OutOfMemory) up place rack down cause asks blames = tt
pump_stops n c m new l (Err (Refused (Device disk))) up place rack down cause asks blames =
    (cause, subst (λ (k : ℕ). pump_asks l k ≢ SendsNothing) up.head asks, log_disk n c m disk up.units place rack blames)
pump_stops n c m new l (Err (Refused IsOff)) up place rack down cause asks blames = absurd (never_both new.down cause (down ∙ up.up))
pump_stops n c m new l (Err (Refused (Damaged unit block stored computed))) up place rack down cause asks blames = tt
pump_stops n c m new l (Err (Refused other)) up place rack down cause asks blames = absurd cause

pub pump_sends : {beside : KeptBeside} (n : Node) (c : Core) (m : Meaning) (site : ℕ) (l : PlainLink) (f f' : Flying) (result : Result (Unit {0}) Stop) → IsUpAt beside n c m
    → OnOk result (SendsBy (pump_asks l (last_of c)) (way_from site l.site c.log.header.state.line) f f') → OnOk result (SendsBy (pump_asks l n.safe) (way_from site l.site n.line) f f')
pump_sends n c m site l f f' (Ok done) up sends =
    subst (λ (k : ℕ). SendsBy (pump_asks l k) (way_from site l.site n.line) f f') up.head
    (subst (λ (i : Line). SendsBy (pump_asks l (last_of c)) (way_from site l.site i) f f') (ap (λ (s : State). s.line) up.kept) sends)
pump_sends n c m site l f f' (Err e) up sends = tt
