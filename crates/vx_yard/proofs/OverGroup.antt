-- Which sites are over a group, as their disks stand.
use Rattle.std.proofs.Common.{◌≡◌, ◌∙◌, ◌≤◌, ◌⊎◌, ⊎_elim, ℕ, Bool, true, false, List, [], length, ap, subst, sym, refl, arith}
use Rattle.std.specs.Prelude.{◌&&◌, eqb, not, Option, Some, None, is_some, unwrap_or}
use Rattle.std.proofs.lemmas.Bool.Decides.{nat_tests}
use Rattle.vx_history.specs.Groups.{GroupNode}
use Rattle.vx_history.specs.World.{Node, Volume}
use Rattle.vx_history.proofs.GoodLemmas.{bare_or_made}
use Rattle.vx_model.specs.Sites.{is_origin}
use Rattle.vx_model.specs.declared.site.Role.{Role}
use Rattle.vx_model.specs.declared.site.SiteState.TheVariants.{Bare as IsBare, Up as IsUp}
use Rattle.vx_disk.specs.Shelf.{Meaning}
use Rattle.vx_disk.specs.declared.shelf.Shelf.{Ghosts}
use Rattle.vx_grouped.specs.GroupSites.{GroupSiteStands, HasNoRvg, NotesGroup}
use Rattle.vx_grouped.specs.declared.group_site.GroupSite.{GroupSite}
use Rattle.vx_grouped.specs.declared.group_site.GroupSite.TheVariants.{Up as GroupUp, Deported as GroupAway, Down as GroupDown, Marked, Gone as GroupGone}
use Rattle.vx_diskset.specs.Asked.{IsRawSet}
use Rattle.vx_diskset.specs.Holds.{KeptBeside, KeptSite}
use Rattle.vx_diskset.specs.Layouts.{LiesOn}
use Rattle.vx_diskset.specs.Stands.{IsGroupSet, OverStands, SiteStands, bare_with}
use Rattle.vx_diskset.proofs.Laying.{laid_in}
use Rattle.vx_diskset.specs.LaidBlocks.{laid_blockwise}
use Rattle.vx_diskset.specs.declared.disk_set.DiskSet.{DiskSet}
use Rattle.vx_diskset.specs.declared.disk_set.DiskSet.TheVariants.{Bare, Spoiled, Up, Receives, Down, OfGroup, Over, Gone}
use Rattle.vx_diskset.specs.declared.over_set.OverSet.{OverSet}
use Rattle.vx_diskset.specs.declared.over_set.OverSite.{OverSite}
use Rattle.vx_diskset.specs.declared.over_set.OverSite.TheVariants.{Origin as OriginSite, Receiver as ReceiverSite, Deported as OverAway, Down as OverFell, Gone as NoOver}
use Rattle.vx_diskset.specs.declared.group_set.GroupSet.{GroupSet}
use Rattle.vx_diskset.specs.Noted.{NotedOver}
use Rattle.vx_events.proofs.Places.{never_some}
use Rattle.vx_events.specs.GroupLines.{is_over_group}
use Rattle.vx_events.specs.GroupNotes.{no_note, note_at}
use Rattle.vx_events.specs.RvgFits.{rvg_noted}
use Rattle.vx_events.specs.RvgViews.{is_over_rvg}
use Rattle.vx_yard.specs.Standing.{BeginsFirst}

-- a site that notes a group is over it
pub noted_over : (n : Node) (note : GroupNode) → NotesGroup n note → is_over_group n ≡ true
noted_over n note it =
    ap (λ (o : Option GroupNode). is_some o && eqb (length n.volumes) 0) it.is ∙ ap (λ (vs : List Volume). eqb (length vs) 0) it.none.volumes

-- a bare site is over none
pub bare_apart : (n : Node) → n ≡ bare_with n → is_over_group n ≡ false
bare_apart n is = ap (λ (k : Node). is_over_group k) is

not_zero : (k : ℕ) → 1 ≤ k → eqb k 0 ≡ false
not_zero k some = grind (arith, nat_tests)

some_apart : (k : ℕ) (b : Bool) → 1 ≤ k → (b && eqb k 0) ≡ false
some_apart k true some = not_zero k some
some_apart k false some = refl

laid_many : (n : Node) (m : Meaning) → LiesOn n m → 1 ≤ length n.volumes
laid_many n m lies = (laid_in n m lies).some

pub many_apart : (n : Node) → 1 ≤ length n.volumes → is_over_group n ≡ false
many_apart n some = some_apart (length n.volumes) (is_some n.group) some

many_some : (n : Node) → 1 ≤ length n.volumes → n.volumes ≡ [] → ⊥
many_some n some none = omega (arith, some, ap (λ (vs : List Volume). length vs) none)

-- nor one with a raw set
pub laid_apart : (n : Node) (m : Meaning) → LiesOn n m → is_over_group n ≡ false
laid_apart n m lies = many_apart n (laid_many n m lies)

laid_some : (n : Node) (m : Meaning) → LiesOn n m → n.volumes ≡ [] → ⊥
laid_some n m lies none = many_some n (laid_many n m lies) none

-- a site over a group with a replicated volume group, and one that notes no group
some_group : (o : Option GroupNode) → (o ≡ None → ⊥) → is_some o ≡ true
some_group None some = absurd (some refl)
some_group (Some note) some = refl

pub with_data : (o : Option GroupNode) (k : ℕ) → is_some o ≡ true → 1 ≤ k → (is_some o && not (eqb k 0)) ≡ true
with_data o k grouped some = ap (λ (b : Bool). b && not (eqb k 0)) grouped ∙ ap not (not_zero k some)

no_group : (o : Option GroupNode) (b : Bool) → (is_some o && b) ≡ false → (is_some o && not b) ≡ false → o ≡ None
no_group None b plain rvg = refl
no_group (Some note) true plain rvg = absurd (let e : true ≡ false = plain in cc)
no_group (Some note) false plain rvg = absurd (let e : true ≡ false = rvg in cc)

pub none_noted : (n : Node) → is_over_group n ≡ false → is_over_rvg n ≡ false → n.group ≡ None
none_noted n plain rvg = no_group n.group (eqb (length n.volumes) 0) plain rvg

pub none_over : (n : Node) → n.group ≡ None → is_over_group n ≡ false
none_over n none = ap (λ (o : Option GroupNode). is_some o && eqb (length n.volumes) 0) none

pub none_rvg : (n : Node) → n.group ≡ None → is_over_rvg n ≡ false
none_rvg n none = ap (λ (o : Option GroupNode). is_some o && not (eqb (length n.volumes) 0)) none

either_way : (a b : Bool) → (a && b) ≡ true → (a && not b) ≡ false
either_way true true e = refl
either_way true false e = absurd (cc)
either_way false b e = refl

pub group_off : (n : Node) → is_over_group n ≡ true → is_over_rvg n ≡ false
group_off n over = either_way (is_some n.group) (eqb (length n.volumes) 0) over

-- a site with the same group and the same volumes
pub rvg_same : (n m : Node) → m.group ≡ n.group → m.volumes ≡ n.volumes → is_over_rvg m ≡ is_over_rvg n
rvg_same n m group volumes =
    ap (λ (o : Option GroupNode). is_some o && not (eqb (length m.volumes) 0)) group ∙ ap (λ (vs : List Volume). is_some n.group && not (eqb (length vs) 0)) volumes

pub both_ways : {b : Bool} → b ≡ true → b ≡ false → ⊥
both_ways over apart = let e : true ≡ false = sym over ∙ apart in cc

module _ {R : Type 0} {g : Ghosts R} where
  site_over : (n : Node) (s : GroupSite R g) → GroupSiteStands n s → (n.state ≡ IsBare → ⊥) → is_over_group n ≡ true
  site_over n (GroupUp group) (note, it) made = noted_over n note it.noted
  site_over n (GroupAway rack) (note, it) made = noted_over n note it.noted
  site_over n (GroupDown rack) (note, it) made = noted_over n note it.noted
  site_over n (Marked rack) it made = absurd (made it.state)
  site_over n GroupGone it made = absurd it

  -- a site with a group that is not bare is over it
  pub set_over : (beside : KeptBeside) (n : Node) (s : GroupSet R g) → IsGroupSet beside n s → (n.state ≡ IsBare → ⊥) → is_over_group n ≡ true
  set_over beside n s it made = site_over n s.site it.stands made

  made_by : (n : Node) (s : GroupSite R g) → GroupSiteStands n s → (n.state ≡ IsBare → ⊥) → (note : GroupNode) × NotesGroup n note
  made_by n (GroupUp group) (note, it) made = (note, it.noted)
  made_by n (GroupAway rack) (note, it) made = (note, it.noted)
  made_by n (GroupDown rack) (note, it) made = (note, it.noted)
  made_by n (Marked rack) it made = absurd (made it.state)
  made_by n GroupGone it made = absurd it

  -- and notes it
  pub set_notes : (beside : KeptBeside) (n : Node) (s : GroupSet R g) → IsGroupSet beside n s → (n.state ≡ IsBare → ⊥) → (note : GroupNode) × NotesGroup n note
  set_notes beside n s it made = made_by n s.site it.stands made

  -- one that is over none is bare
  pub apart_bare : (beside : KeptBeside) (n : Node) (s : GroupSet R g) → IsGroupSet beside n s → is_over_group n ≡ false → n.state ≡ IsBare
  apart_bare beside n s it apart = ⊎_elim (λ (bare : n.state ≡ IsBare). bare) (λ made. absurd (both_ways (set_over beside n s it made) apart)) (bare_or_made n.state)

  -- one with a replicated volume group over its group has a volume of that
  over_many : (beside : KeptBeside) (n : Node) (s : OverSite R g) → OverStands beside n s → 1 ≤ length n.volumes
  over_many beside n (OriginSite f) it = laid_many n (laid_blockwise f.laid) it.lies
  over_many beside n (ReceiverSite f) it = laid_many n (laid_blockwise f.laid) it.lies
  over_many beside n (OverAway idle) it = it.1.lies.some
  over_many beside n (OverFell idle) it = it.2.lies.some
  over_many beside n NoOver it = absurd it

  -- and notes the group
  pub over_rvg : (beside : KeptBeside) (n : Node) (s : OverSet R g) → SiteStands beside n (Over s) → is_over_rvg n ≡ true
  over_rvg beside n s it = with_data n.group (length n.volumes) (some_group n.group it.0.0) (over_many beside n s.site it.1)

  -- of one without a replicated volume group over its group nothing more is noted
  pub noted_off : (beside : KeptBeside) (n m : Node) (e : DiskSet R g) → SiteStands beside n e → is_over_rvg n ≡ false → NotedOver m e
  noted_off beside n m (Bare rack) it off = tt
  noted_off beside n m (Spoiled rack) it off = tt
  noted_off beside n m (Up rvg) it off = tt
  noted_off beside n m (Receives s) it off = tt
  noted_off beside n m (Down rack) it off = tt
  noted_off beside n m (OfGroup s) it off = tt
  noted_off beside n m (Over s) it off = absurd (both_ways (over_rvg beside n s it) off)
  noted_off beside n m Gone it off = tt

  -- so it is of one that notes no group
  pub noted_none : (beside : KeptBeside) (n m : Node) (e : DiskSet R g) → SiteStands beside n e → n.group ≡ None → NotedOver m e
  noted_none beside n m e it none = noted_off beside n m e it (none_rvg n none)

  -- and of one over a group
  pub noted_group : (beside : KeptBeside) (n m : Node) (e : DiskSet R g) → SiteStands beside n e → is_over_group n ≡ true → NotedOver m e
  noted_group beside n m e it over = noted_off beside n m e it (group_off n over)

  -- a site over no group has a volume, where it is made
  made_many : (beside : KeptBeside) (n : Node) (e : DiskSet R g) → SiteStands beside n e → is_over_group n ≡ false → (n.state ≡ IsBare → ⊥) → 1 ≤ length n.volumes
  made_many beside n (Bare rack) it apart made = absurd (made (ap (λ (x : Node). x.state) it.bare.is))
  made_many beside n (Spoiled rack) it apart made = absurd (made (ap (λ (x : Node). x.state) it.is))
  made_many beside n (Up rvg) it apart made = laid_many n (g.meaning rvg.shelf) it.1.lies
  made_many beside n (Receives s) it apart made = laid_many n (g.meaning s.rvg.shelf) it.1.lies
  made_many beside n (Down rack) it apart made = it.lies.laid.some
  made_many beside n (OfGroup s) it apart made = absurd (made (apart_bare beside n s it apart))
  made_many beside n (Over s) it apart made = over_many beside n s.site it.1
  made_many beside n Gone it apart made = absurd it

  pub begins_apart : (site : ℕ) (beside : KeptBeside) (n : Node) (e : DiskSet R g) → SiteStands beside n e → is_over_group n ≡ false → BeginsFirst site n
  begins_apart site beside n e it apart = λ made none. absurd (many_some n (made_many beside n e it apart made) none)

  -- other disks are those of a site over no group
  pub raw_apart : (beside : KeptBeside) (n : Node) (e : DiskSet R g) → SiteStands beside n e → ((s : GroupSet R g) → e ≡ OfGroup s → ⊥) → is_over_group n ≡ false
  raw_apart beside n (Bare rack) it other = bare_apart n it.bare.is
  raw_apart beside n (Spoiled rack) it other = bare_apart n it.is
  raw_apart beside n (Up rvg) it other = laid_apart n (g.meaning rvg.shelf) it.1.lies
  raw_apart beside n (Receives s) it other = laid_apart n (g.meaning s.rvg.shelf) it.1.lies
  raw_apart beside n (Down rack) it other = many_apart n it.lies.laid.some
  raw_apart beside n (Over s) it other = many_apart n (over_many beside n s.site it.1)
  raw_apart beside n (OfGroup s) it other = absurd (other s refl)
  raw_apart beside n Gone it other = absurd it

  -- the disks of a site over a group are a group
  pub over_is : (beside : KeptBeside) (n : Node) (e : DiskSet R g) → SiteStands beside n e → is_over_group n ≡ true → (s : GroupSet R g) × (e ≡ OfGroup s)
  over_is beside n (Bare rack) it over = absurd (both_ways over (bare_apart n it.bare.is))
  over_is beside n (Spoiled rack) it over = absurd (both_ways over (bare_apart n it.is))
  over_is beside n (Up rvg) it over = absurd (both_ways over (laid_apart n (g.meaning rvg.shelf) it.1.lies))
  over_is beside n (Receives s) it over = absurd (both_ways over (laid_apart n (g.meaning s.rvg.shelf) it.1.lies))
  over_is beside n (Down rack) it over = absurd (both_ways over (many_apart n it.lies.laid.some))
  over_is beside n (Over s) it over = absurd (both_ways over (many_apart n (over_many beside n s.site it.1)))
  over_is beside n (OfGroup s) it over = (s, refl)
  over_is beside n Gone it over = absurd it

  -- the disks of a site that notes no group, or at least is over none with a replicated volume group
  pub raw_set : (beside : KeptBeside) (n : Node) (e : DiskSet R g) → SiteStands beside n e → is_over_rvg n ≡ false → IsRawSet e
  raw_set beside n (Bare rack) it off = tt
  raw_set beside n (Spoiled rack) it off = tt
  raw_set beside n (Up rvg) it off = tt
  raw_set beside n (Receives s) it off = tt
  raw_set beside n (Down rack) it off = tt
  raw_set beside n (OfGroup s) it off = tt
  raw_set beside n (Over s) it off = absurd (both_ways (over_rvg beside n s it) off)
  raw_set beside n Gone it off = tt

  -- and such a site has no replicated volume group
  pub over_none : (beside : KeptBeside) (n : Node) (e : DiskSet R g) → SiteStands beside n e → is_over_group n ≡ true → HasNoRvg n
  over_none beside n e it over =
      let of = over_is beside n e it over in
      let set : IsGroupSet beside n of.0 = subst (λ (x : DiskSet R g). SiteStands beside n x) of.1 it in
      (set_notes beside n of.0 set (λ bare. both_ways over (bare_apart n (set.bare bare)))).1.none

  -- nor does what it notes of its group name one
  pub over_plain : (beside : KeptBeside) (n : Node) (e : DiskSet R g) → SiteStands beside n e → is_over_group n ≡ true → rvg_noted (note_at n) ≡ None
  over_plain beside n e it over =
      let of = over_is beside n e it over in
      let set : IsGroupSet beside n of.0 = subst (λ (x : DiskSet R g). SiteStands beside n x) of.1 it in
      let made : n.state ≡ IsBare → ⊥ = λ bare. both_ways over (bare_apart n (set.bare bare)) in
      let noted = set_notes beside n of.0 set made in
      ap (λ (o : Option GroupNode). rvg_noted (unwrap_or o no_note)) noted.1.is ∙ set.plain made noted.0 noted.1.is

  -- one that receives is over no group
  pub receives_apart : (beside : KeptBeside) (n : Node) (e : DiskSet R g) → SiteStands beside n e → is_origin n.role ≡ false → is_over_group n ≡ false
  receives_apart beside n e it receives = by (is_over_group n) refl
    where
      by : (b : Bool) → is_over_group n ≡ b → is_over_group n ≡ false
      by false is = is
      by true is = absurd (both_ways (ap (λ (r : Role). is_origin r) (over_none beside n e it is).role) receives)

  -- a site that may be another has a volume of a replicated volume group
  pub doubt_apart : (beside : KeptBeside) (n : Node) (e : DiskSet R g) (k : KeptSite) → SiteStands beside n e → n.state ≡ IsUp → beside.doubt ≡ Some k → n.volumes ≡ [] → ⊥
  doubt_apart beside n (Bare rack) k it up doubt none = let e : IsBare ≡ IsUp = sym (ap (λ (x : Node). x.state) it.bare.is) ∙ up in cc
  doubt_apart beside n (Spoiled rack) k it up doubt none = let e : IsBare ≡ IsUp = sym (ap (λ (x : Node). x.state) it.is) ∙ up in cc
  doubt_apart beside n (Up rvg) k it up doubt none = laid_some n (g.meaning rvg.shelf) it.1.lies none
  doubt_apart beside n (Receives s) k it up doubt none = laid_some n (g.meaning s.rvg.shelf) it.1.lies none
  doubt_apart beside n (Down rack) k it up doubt none = many_some n it.lies.laid.some none
  doubt_apart beside n (Over s) k it up doubt none = many_some n (over_many beside n s.site it.1) none
  doubt_apart beside n (OfGroup s) k it up doubt none = never_some (sym (it.sure (λ bare. let e : IsBare ≡ IsUp = sym bare ∙ up in cc)) ∙ doubt)
  doubt_apart beside n Gone k it up doubt none = it
