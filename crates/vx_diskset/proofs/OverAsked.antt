-- What is asked of a replicated volume group over a group, by its site.
use Rattle.std.proofs.Common.{◌≡◌, ◌∙◌, ⊎_elim, ℕ, ◌+◌, ◌-◌, ◌≤◌, true, false, List, length, drop, ap, arith, refl, subst, sym}
use Rattle.std.specs.Prelude.{IfSome, IsSome, None, Option, Some, slice_get}
use Rattle.std.proofs.lemmas.Bool.{cases_lt}
use Rattle.std.proofs.lemmas.List.{length-drop, length-map}
use Rattle.vx_disk.specs.Shelf.{Meaning}
use Rattle.vx_disk.specs.declared.shelf.Shelf.{Ghosts}
use Rattle.vx_history.specs.Events.{logged_blocks}
use Rattle.vx_history.specs.World.{Node}
use Rattle.vx_model.specs.Content.{Write}
use Rattle.vx_model.specs.Sites.{is_origin}
use Rattle.vx_model.specs.declared.call.Update.{Update}
use Rattle.vx_model.specs.declared.site.SiteState.TheVariants.{Up as IsUp, Down as IsDown, Deported as IsAway}
use Rattle.vx_model.specs.declared.state.KeptLink.{KeptLink}
use Rattle.vx_model.specs.declared.state.State.{State}
use Rattle.vx_ground.specs.Lifted.{laid_volumes}
use Rattle.vx_diskset.specs.LaidBlocks.{laid_blockwise}
use Rattle.vx_rvg.specs.Contents.{write_of_update}
use Rattle.vx_rvg.specs.Views.{Core, IsSound, last_of}
use Rattle.vx_rvg.specs.declared.group.Rvg.{Rvg}
use Rattle.vx_diskset.specs.Aboves.{above_in, above_site, core_of}
use Rattle.vx_diskset.specs.Holds.{KeptBeside, state_with}
use Rattle.vx_diskset.specs.Needs.{hold_of, is_needing}
use Rattle.vx_diskset.specs.OverAsks.{UsesAs, UsesOver, core_last, core_session, core_state, many_received, many_waiting}
use Rattle.vx_diskset.specs.Stands.{IsReceiverAt, IsToldAt, IsUpAt, OverStands, SiteStands}
use Rattle.vx_diskset.specs.declared.disk_set.DiskSet.{DiskSet}
use Rattle.vx_diskset.specs.declared.disk_set.DiskSet.TheVariants.{Over, Up}
use Rattle.vx_diskset.specs.declared.over_set.OverSet.{OverSet}
use Rattle.vx_diskset.specs.declared.over_set.OverSite.{OverSite}
use Rattle.vx_diskset.specs.declared.over_set.OverSite.TheVariants.{Origin as OriginSite, Receiver as ReceiverSite, Deported as GroupAway, Down as GroupFell, Gone as NoGroup}
use Rattle.vx_diskset.proofs.BlockLemmas.{sound_alone}
use Rattle.vx_diskset.proofs.NeedLemmas.{low_needed, used_is, used_none}

-- ---- the log of one that is up

-- the blocks that the numbers above one take are those of the writes behind it
pub used_up : {beside : KeptBeside} (n : Node) (c : Core) (m : Meaning) (above : ℕ) (o : Option ℕ) → IsUpAt beside n c m → n.halted ≡ None → IsSound c m → UsesAs c above o → IfSome o (λ blocks. blocks ≡ logged_blocks (drop above n.log))
used_up n c m above None up running sound uses = tt
used_up n c m above (Some blocks) up running sound uses = ⊎_elim
    (λ low. uses.is low ∙ used_is n c m above up running sound uses.low)
    (λ high. uses.past high ∙ used_none n c m above up running high)
    (cases_lt above (last_of c))

-- what a log keeps of its site, but for the links
kept_but : (n : Node) (s : State) (found : List KeptLink) → s ≡ state_with n found → s ≡ state_with n s.links
kept_but n s found is = is ∙ ap (λ (ls : List KeptLink). state_with n ls) (sym (ap (λ (x : State). x.links) is))

never_away : {A : Type 0} (n : Node) → n.state ≡ IsAway → n.state ≡ IsUp → A
never_away n away up = absurd (let clash : IsAway ≡ IsUp = sym away ∙ up in cc)

never_fell : {A : Type 0} (n : Node) → n.state ≡ IsDown → n.state ≡ IsUp → A
never_fell n down up = absurd (let clash : IsDown ≡ IsUp = sym down ∙ up in cc)

same_state : (a b : State) → Some a ≡ Some b → b ≡ a
same_state a b is = cc

never_state : {A : Type 0} (a : State) → Some a ≡ None → A
never_state a is = absurd (let clash : Some a ≡ None = is in cc)

links_of : (n : Node) (links : List KeptLink) (s : State) (found : List KeptLink) → s ≡ state_with n found → found ≡ links → s.links ≡ links
links_of n links s found is linked = ap (λ (x : State). x.links) is ∙ linked

none_used : (n : Node) (above : ℕ) (o : Option ℕ) → o ≡ None → IfSome o (λ blocks. blocks ≡ logged_blocks (drop above n.log))
none_used n above o is = subst (λ (x : Option ℕ). IfSome x (λ blocks. blocks ≡ logged_blocks (drop above n.log))) (sym is) tt

behind : {beside : KeptBeside} (n : Node) (c : Core) (us : List Update) (m : Meaning) → IsReceiverAt beside n c us m → length us ≡ length n.log - last_of c
behind n c us m here = omega (arith, ap (λ (ws : List Write). length ws) here.waits, length-map us write_of_update, length-drop (last_of c) n.log)

module _ {R : Type 0} {g : Ghosts R} (beside : KeptBeside) (n : Node) where
  up_here : (e : DiskSet R g) (rvg : Rvg R g) → e ≡ Up rvg → SiteStands beside n e → IsUpAt beside n rvg.core (g.meaning rvg.shelf)
  up_here e rvg is stands = (subst (λ (x : DiskSet R g). SiteStands beside n x) is stands).1

  pub used_there : (e : DiskSet R g) (rvg : Rvg R g) → e ≡ Up rvg → SiteStands beside n e → n.halted ≡ None → (above : ℕ) (o : Option ℕ) → UsesAs rvg.core above o → IfSome o (λ blocks. blocks ≡ logged_blocks (drop above n.log))
  used_there e rvg is stands running above o uses = used_up n rvg.core (g.meaning rvg.shelf) above o (up_here e rvg is stands) running rvg.sound uses

  pub needed_there : (e : DiskSet R g) (rvg : Rvg R g) → e ≡ Up rvg → SiteStands beside n e → n.halted ≡ None → IsToldAt e → (k above : ℕ) (l : KeptLink) → slice_get beside.links k ≡ Some l → is_needing l ≡ true → hold_of l ≤ above
      → rvg.core.log.header.low ≤ above + 1
  needed_there e rvg is stands running told k above l there needing far =
      low_needed beside n rvg.core (g.meaning rvg.shelf) k above l (up_here e rvg is stands) running (subst (λ (x : DiskSet R g). IsToldAt x) is told) there needing far

  -- ---- one over a group

  over_here : (e : DiskSet R g) (s : OverSet R g) → e ≡ Over s → SiteStands beside n e → OverStands beside n s.site
  over_here e s is stands = (subst (λ (x : DiskSet R g). SiteStands beside n x) is stands).1

  last_by : (o : OverSite R g) → OverStands beside n o → n.state ≡ IsUp → n.halted ≡ None → core_last (core_of (above_site o)) ≡ n.safe
  last_by (OriginSite f) here up running = here.head
  last_by (ReceiverSite f) here up running = here.head running
  last_by (GroupAway idle) here up running = never_away n here.0 up
  last_by (GroupFell idle) here up running = never_fell n here.0 up
  last_by NoGroup here up running = absurd here

  pub over_last : (e : DiskSet R g) (s : OverSet R g) → e ≡ Over s → SiteStands beside n e → n.state ≡ IsUp → n.halted ≡ None → core_last (core_of (above_in s)) ≡ n.safe
  over_last e s is stands up running = last_by s.site (over_here e s is stands) up running

  session_by : (o : OverSite R g) → OverStands beside n o → n.state ≡ IsUp → core_session (core_of (above_site o)) ≡ n.session
  session_by (OriginSite f) here up = here.session
  session_by (ReceiverSite f) here up = here.session
  session_by (GroupAway idle) here up = never_away n here.0 up
  session_by (GroupFell idle) here up = never_fell n here.0 up
  session_by NoGroup here up = absurd here

  pub over_session : (e : DiskSet R g) (s : OverSet R g) → e ≡ Over s → SiteStands beside n e → n.state ≡ IsUp → core_session (core_of (above_in s)) ≡ n.session
  over_session e s is stands up = session_by s.site (over_here e s is stands) up

  some_by : (o : OverSite R g) → OverStands beside n o → n.state ≡ IsUp → IsSome (core_of (above_site o))
  some_by (OriginSite f) here up = refl
  some_by (ReceiverSite f) here up = refl
  some_by (GroupAway idle) here up = never_away n here.0 up
  some_by (GroupFell idle) here up = never_fell n here.0 up
  some_by NoGroup here up = absurd here

  pub over_some : (e : DiskSet R g) (s : OverSet R g) → e ≡ Over s → SiteStands beside n e → n.state ≡ IsUp → IsSome (core_of (above_in s))
  over_some e s is stands up = some_by s.site (over_here e s is stands) up

  state_by : (o : OverSite R g) (s : State) → OverStands beside n o → Some s ≡ core_state (core_of (above_site o)) → s ≡ state_with n s.links
  state_by (OriginSite f) s here is = subst (λ (x : State). x ≡ state_with n x.links) (same_state s f.core.log.header.state is) (kept_but n f.core.log.header.state here.found here.kept)
  state_by (ReceiverSite f) s here is = subst (λ (x : State). x ≡ state_with n x.links) (same_state s f.core.log.header.state is) (kept_but n f.core.log.header.state here.found here.kept)
  state_by (GroupAway idle) s here is = never_state s is
  state_by (GroupFell idle) s here is = never_state s is
  state_by NoGroup s here is = absurd here

  pub over_state : (e : DiskSet R g) (o : OverSet R g) → e ≡ Over o → SiteStands beside n e → (s : State) → Some s ≡ core_state (core_of (above_in o)) → s ≡ state_with n s.links
  over_state e o is stands s at = state_by o.site s (over_here e o is stands) at

  links_by : (o : OverSite R g) (s : State) → OverStands beside n o → IsToldAt (Over (record { site = o; cut = None })) → Some s ≡ core_state (core_of (above_site o)) → s.links ≡ beside.links
  links_by (OriginSite f) s here told is = subst (λ (x : State). x.links ≡ beside.links) (same_state s f.core.log.header.state is) (links_of n beside.links f.core.log.header.state here.found here.kept (here.linked told))
  links_by (ReceiverSite f) s here told is = subst (λ (x : State). x.links ≡ beside.links) (same_state s f.core.log.header.state is) (links_of n beside.links f.core.log.header.state here.found here.kept (here.linked told))
  links_by (GroupAway idle) s here told is = never_state s is
  links_by (GroupFell idle) s here told is = never_state s is
  links_by NoGroup s here told is = absurd here

  pub over_links : (e : DiskSet R g) (o : OverSet R g) → e ≡ Over o → SiteStands beside n e → IsToldAt e → (s : State) → Some s ≡ core_state (core_of (above_in o)) → s.links ≡ beside.links
  over_links e o is stands told s at = links_by o.site s (over_here e o is stands) (subst (λ (x : DiskSet R g). IsToldAt x) is told) at

  used_by : (s : OverSite R g) (above : ℕ) (o : Option ℕ) → OverStands beside n s → n.halted ≡ None → UsesOver (above_site s) above o → IfSome o (λ blocks. blocks ≡ logged_blocks (drop above n.log))
  used_by (OriginSite f) above o here running uses = used_up n f.core (laid_blockwise f.laid) above o here running (sound_alone f.core (laid_volumes f.laid) f.sound) uses
  used_by (ReceiverSite f) above o here running uses = none_used n above o uses
  used_by (GroupAway idle) above o here running uses = none_used n above o uses
  used_by (GroupFell idle) above o here running uses = none_used n above o uses
  used_by NoGroup above o here running uses = absurd here

  pub over_used : (e : DiskSet R g) (s : OverSet R g) → e ≡ Over s → SiteStands beside n e → n.halted ≡ None → (above : ℕ) (o : Option ℕ) → UsesOver (above_in s) above o → IfSome o (λ blocks. blocks ≡ logged_blocks (drop above n.log))
  over_used e s is stands running above o uses = used_by s.site above o (over_here e s is stands) running uses

  needed_by : (s : OverSite R g) (k above : ℕ) (l : KeptLink) (o : Option ℕ) → OverStands beside n s → is_origin n.role ≡ true → n.state ≡ IsUp → n.halted ≡ None → IsToldAt (Over (record { site = s; cut = None })) → slice_get beside.links k ≡ Some l
      → is_needing l ≡ true → hold_of l ≤ above → UsesOver (above_site s) above o → IsSome o
  needed_by (OriginSite f) k above l o here origin up running told there needing far uses = uses.some (low_needed beside n f.core (laid_blockwise f.laid) k above l here running told there needing far)
  needed_by (ReceiverSite f) k above l o here origin up running told there needing far uses = absurd (let clash : true ≡ false = sym origin ∙ here.role in cc)
  needed_by (GroupAway idle) k above l o here origin up running told there needing far uses = never_away n here.0 up
  needed_by (GroupFell idle) k above l o here origin up running told there needing far uses = never_fell n here.0 up
  needed_by NoGroup k above l o here origin up running told there needing far uses = absurd here

  pub over_needed : (e : DiskSet R g) (s : OverSet R g) → e ≡ Over s → SiteStands beside n e → is_origin n.role ≡ true → n.state ≡ IsUp → n.halted ≡ None → IsToldAt e → (k above : ℕ) (l : KeptLink) (o : Option ℕ) → slice_get beside.links k ≡ Some l
      → is_needing l ≡ true → hold_of l ≤ above → UsesOver (above_in s) above o → IsSome o
  over_needed e s is stands origin up running told k above l o there needing far uses =
      needed_by s.site k above l o (over_here e s is stands) origin up running (subst (λ (x : DiskSet R g). IsToldAt x) is told) there needing far uses

  -- ---- what waits behind it

  waiting_by : (o : OverSite R g) → OverStands beside n o → n.state ≡ IsUp → n.halted ≡ None → many_waiting (above_site o) ≡ length n.log - n.safe
  waiting_by (OriginSite f) here up running = let whole = here.durable running in omega (arith, whole)
  waiting_by (ReceiverSite f) here up running = let many = behind n f.core f.waiting (laid_blockwise f.laid) here in let head = here.head running in omega (arith, many, head)
  waiting_by (GroupAway idle) here up running = never_away n here.0 up
  waiting_by (GroupFell idle) here up running = never_fell n here.0 up
  waiting_by NoGroup here up running = absurd here

  pub over_waiting : (e : DiskSet R g) (s : OverSet R g) → e ≡ Over s → SiteStands beside n e → n.state ≡ IsUp → n.halted ≡ None → many_waiting (above_in s) ≡ length n.log - n.safe
  over_waiting e s is stands up running = waiting_by s.site (over_here e s is stands) up running

  received_by : (o : OverSite R g) → OverStands beside n o → n.state ≡ IsUp → n.halted ≡ None → many_received (above_site o) ≡ length n.log
  received_by (OriginSite f) here up running = let whole = here.durable running in let head = here.head in let logged = here.logged in omega (arith, whole, head, logged)
  received_by (ReceiverSite f) here up running = let many = behind n f.core f.waiting (laid_blockwise f.laid) here in let most = here.most in omega (arith, many, most)
  received_by (GroupAway idle) here up running = never_away n here.0 up
  received_by (GroupFell idle) here up running = never_fell n here.0 up
  received_by NoGroup here up running = absurd here

  pub over_received : (e : DiskSet R g) (s : OverSet R g) → e ≡ Over s → SiteStands beside n e → n.state ≡ IsUp → n.halted ≡ None → many_received (above_in s) ≡ length n.log
  over_received e s is stands up running = received_by s.site (over_here e s is stands) up running
