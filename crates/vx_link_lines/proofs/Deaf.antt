-- The target of a packet: whether it receives, and what the yard has of it.
use Rattle.std.proofs.Common.{◌≡◌, ◌∙◌, ◌⊎◌, inl, inr, ⊎_elim, ◌<◌, ℕ, zero, suc, Bool, true, false, List, [], ◌∷◌, ap, sym, subst, refl}
use Rattle.std.specs.Prelude.{Option, Some, None, slice_get}
use Rattle.vx_model.specs.Content.{Write}
use Rattle.vx_model.specs.Sites.{is_origin, is_up}
use Rattle.vx_model.specs.declared.site.SiteState.TheVariants.{Bare as IsBare, Up as IsUp, Deported as IsDeported, Down as IsDown}
use Rattle.vx_history.specs.Doubts.{Doubted}
use Rattle.vx_events.proofs.Steps.{no_sites}
use Rattle.vx_events.specs.GroupLines.{is_over_group}
use Rattle.vx_events.specs.LinkedFacts.{link_facts, links_by}
use Rattle.vx_events.specs.LinksFit.{StartsAt}
use Rattle.vx_history.specs.Sends.{is_linked}
use Rattle.vx_model.specs.declared.site.SiteState.{SiteState}
use Rattle.vx_history.specs.Events.{delivered, linked_sites, packet_at}
use Rattle.vx_history.specs.Refusals.{Outcome, says}
use Rattle.vx_history.specs.Stops.{IsOpen}
use Rattle.vx_history.specs.World.{Link, Node, Packet, Update, World}
use Rattle.vx_history.specs.declared.event.Said.{Said as EventSaid}
use Rattle.vx_history.specs.declared.event.Said.TheVariants.{Ignored as IsIgnored, Taken as IsTaken}
use Rattle.vx_history.proofs.GoodLemmas.{bare_or_made}
use Rattle.vx_disk.specs.declared.shelf.Shelf.{Ghosts}
use Rattle.vx_effects.specs.Facts.{fact_of, received_fact}
use Rattle.vx_events.proofs.Places.{some_same}
use Rattle.vx_linked.proofs.Heard.{site_apart}
use Rattle.vx_yard.proofs.OverGroup.{set_notes}
use Rattle.vx_net.specs.Flights.{Flying}
use Rattle.vx_order.specs.declared.facts.RvgFacts.{RvgFacts}
use Rattle.vx_order.specs.declared.facts.SiteFacts.{SiteFacts}
use Rattle.vx_packet.specs.Assemblies.{Assembled}
use Rattle.vx_diskset.specs.Holds.{KeptBeside}
use Rattle.vx_diskset.specs.Stands.{IsRackTold, RoleIs, SiteStands}
use Rattle.vx_diskset.specs.declared.disk_set.DiskSet.{DiskSet}
use Rattle.vx_diskset.specs.declared.disk_set.DiskSet.TheVariants.{Bare, Spoiled, Up, Receives as HasRoom, Down, OfGroup, Over, Gone}
use Rattle.vx_joins.proofs.TakesUpdate.{ignored_is}
use Rattle.vx_joins.specs.Deliveries.{IsUnheard, TakesNone, TakesOne, TookTo}
use Rattle.vx_yard.specs.Changes.{last_facts}
use Rattle.vx_yard.specs.Deliveries.{Receives}
use Rattle.vx_yard.specs.Standing.{StandsFor}
use Rattle.vx_yard.specs.Stands.{AreTold}
use Rattle.vx_yard.specs.declared.yard.Yard.{Yard}
use Rattle.vx_yard.proofs.RecoverLine.{rack_told_or}

pub last_received : (number : ℕ) (f : SiteFacts) → last_facts number f ≡ received_fact number f
last_received number f = by f.rvg
  where
    by : (r : Option RvgFacts) → last_facts number (record f { rvg = r }) ≡ received_fact number (record f { rvg = r })
    by None = refl
    by (Some rvg) = refl

-- a site that receives shows no links
shown_none : (n : Node) (row : ℕ → Link) (t : SiteState) (ss : List ℕ) → ss ≡ [] → links_by t (link_facts n row ss) ≡ []
shown_none n row t ss is = ap (λ (xs : List ℕ). links_by t (link_facts n row xs)) is ∙ by t
  where
    by : (t : SiteState) → links_by t [] ≡ []
    by IsBare = refl
    by IsUp = refl
    by IsDeported = refl
    by IsDown = refl

pub none_start : (n : Node) (row : ℕ → Link) (sites : ℕ) → StartsAt n row → is_origin n.role ≡ false → (fact_of n row sites).links ≡ []
none_start n row sites starts receives = shown_none n row n.state (linked_sites row sites 0 sites) (no_sites row sites 0 sites (λ k. by k (is_linked (row k)) refl))
  where
    by : (k : ℕ) (b : Bool) → is_linked (row k) ≡ b → is_linked (row k) ≡ false
    by k true is = absurd (let e : false ≡ true = sym receives ∙ starts k is in cc)
    by k false is = is

-- what the world makes of the packet of this number
abbrev outcome_at : Doubted → (number : ℕ) → Outcome
outcome_at d number = delivered d.world number (packet_at d.world.packets number)

module _ {R : Type 0} {g : Ghosts R} where
  -- whether contents are told
  place_told : (e : DiskSet R g) (es : List (DiskSet R g)) → AreTold es ⊎ (AreTold es → ⊥) → (let one : Type 0 = AreTold (e ∷ es) in one ⊎ (one → ⊥))
  place_told e es rest = ⊎_elim
      (λ told. ⊎_elim
      (λ all. inl (record { each = λ s x is. at s x is told all }))
      (λ none. inr (λ all. none (record { each = λ s x is. all.each (suc s) x is })))
      rest)
      (λ none. inr (λ all. none (all.each zero e refl)))
      (rack_told_or e)
    where
      at : (s : ℕ) (x : DiskSet R g) → slice_get (e ∷ es) s ≡ Some x → IsRackTold e → AreTold es → IsRackTold x
      at zero x is told all = subst (λ (y : DiskSet R g). IsRackTold y) (some_same is) told
      at (suc s) x is told all = all.each s x is

  pub all_told : (es : List (DiskSet R g)) → AreTold es ⊎ (AreTold es → ⊥)
  all_told [] = inl (record { each = λ s x is. absurd (none s x is) })
    where
      none : (s : ℕ) (x : DiskSet R g) → slice_get (let xs : List (DiskSet R g) = [] in xs) s ≡ Some x → ⊥
      none zero x is = cc
      none (suc s) x is = cc
  all_told (e ∷ es) = place_told e es (all_told es)

  -- and the world has not strayed
  pub all_calm : (es : List (DiskSet R g)) (strayed : Bool) → (AreTold es × (strayed ≡ false)) ⊎ (AreTold es → strayed ≡ false → ⊥)
  all_calm es true = inr (λ told calm. absurd (let e : true ≡ false = calm in cc))
  all_calm es false = by (all_told es)
    where
      by : AreTold es ⊎ (AreTold es → ⊥) → (AreTold es × (false ≡ false)) ⊎ (AreTold es → false ≡ false → ⊥)
      by (inl told) = inl (told, refl)
      by (inr untold) = inr (λ told calm. untold told)

  -- one that takes something is open
  pub took_open : (w : World) (number : ℕ) (p : Packet) (k : ℕ) (beside : KeptBeside) (e : DiskSet R g) (fed : ℕ) (a b : Assembled) (f h : Flying) → TookTo w number p k beside e fed a b f h IsTaken → IsOpen (w.nodes p.target)
  took_open w number p k beside e fed a b f h (TakesOne opens receives next x said here from sends) = opens
  took_open w number p k beside e fed a b f h (TakesNone opens receives next how here from still) = opens
  took_open w number p k beside e fed a b f h (IsUnheard more is said here from same sends) = absurd (let x : IsTaken ≡ IsIgnored = said in cc)

  -- what is not taken is ignored
  pub took_ignored : (w : World) (number : ℕ) (p : Packet) (k : ℕ) (beside : KeptBeside) (e : DiskSet R g) (fed : ℕ) (a b : Assembled) (f h : Flying) (said : EventSaid) → TookTo w number p k beside e fed a b f h said → (said ≡ IsTaken → ⊥) → said ≡ IsIgnored
  took_ignored w number p k beside e fed a b f h said (TakesOne opens receives next x is here from sends) not = absurd (not is)
  took_ignored w number p k beside e fed a b f h said (TakesNone opens receives next how here from still) not = ⊎_elim (λ taken. absurd (not taken)) (λ is. is) how
  took_ignored w number p k beside e fed a b f h said (IsUnheard more is said_is here from same sends) not = said_is

  -- the facts of a site
  pub fact_at : (d : Doubted) (y : Yard R g) (s : ℕ) (f : SiteFacts) → StandsFor d y → s < d.world.sites → is_over_group (d.world.nodes s) ≡ false → slice_get y.facts.items s ≡ Some f → f ≡ fact_of (d.world.nodes s) (d.world.links s) d.world.sites
  fact_at d y s f stands below alone at = some_same (sym at ∙ ap (λ (fs : List SiteFacts). slice_get fs s) stands.facts ∙ site_apart d.world s below alone)

  module _ (d : Doubted) (number : ℕ) (p : Packet) (k : ℕ) (x : Write) (at : packet_at d.world.packets number ≡ Some p) (message : p.message ≡ Update k x) where
    -- disks that receive nothing
    pub ignored_by : (beside : KeptBeside) (e : DiskSet R g) (b : Bool) → Receives e b → b ≡ false → RoleIs (d.world.nodes p.target) e → SiteStands beside (d.world.nodes p.target) e → outcome_at d number ≡ says d.world IsIgnored
    ignored_by beside (Bare rack) b is none role stands = ignored_is d.world number p k x at message (inl (inl (ap (λ (m : Node). is_up m.state) stands.bare.is)))
    ignored_by beside (Spoiled rack) b is none role stands = ignored_is d.world number p k x at message (inl (inl (ap (λ (m : Node). is_up m.state) stands.is)))
    ignored_by beside (Up rvg) b is none role stands = ignored_is d.world number p k x at message (inr role)
    ignored_by beside (HasRoom s) b is none role stands = absurd (let e : true ≡ false = sym is ∙ none in cc)
    ignored_by beside (Down rack) b is none role stands = ignored_is d.world number p k x at message (inl (inl (ap is_up stands.state)))
    ignored_by beside (OfGroup s) b is none role stands = ⊎_elim
        (λ (bare : (d.world.nodes p.target).state ≡ IsBare). ignored_is d.world number p k x at message (inl (inl (ap is_up bare))))
        (λ made. ignored_is d.world number p k x at message (inr (ap is_origin (set_notes beside (d.world.nodes p.target) s stands made).1.none.role))) (bare_or_made (d.world.nodes p.target).state)
    ignored_by beside (Over s) b is none role stands = ignored_is d.world number p k x at message (inr stands.0.5)
    ignored_by beside Gone b is none role stands = absurd stands
