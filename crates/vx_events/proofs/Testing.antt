-- What is known of a world where no test refuses a line.
use Rattle.std.proofs.Common.{◌≡◌, ◌∙◌, ◌+◌, ◌*◌, ◌<◌, ◌≤◌, ℕ, zero, suc, List, [], ◌∷◌, length, Bool, true, false, ap, sym, subst, refl, arith}
use Rattle.std.specs.Prelude.{Option, Some, None, slice_get, map, unwrap_or, replicate, cond, bytes_eq, not, ◌&&◌, if◌then◌else◌, is_some}
use Rattle.std.specs.List.{find}
use Rattle.std.proofs.lemmas.List.{length-replicate}
use Rattle.std.proofs.lemmas.Option.{slice_get_within}
use Rattle.vx_model.specs.declared.limits.TheConstants.{MOST_NUMBER}
use Rattle.vx_model.specs.Content.{blocks_in}
use Rattle.vx_model.specs.Sites.{is_up}
use Rattle.vx_model.specs.Sizes.{is_raw_shape}
use Rattle.vx_model.specs.declared.no.No.TheVariants.{Role as WrongRole, Size as WrongSize, Exists}
use Rattle.vx_model.specs.declared.site.Role.{Role}
use Rattle.vx_model.specs.declared.site.Role.TheVariants.{Primary, Secondary, Handing, Bunker}
use Rattle.vx_model.specs.declared.site.SiteState.{SiteState}
use Rattle.vx_model.specs.declared.site.SiteState.TheVariants.{Up as IsUp}
use Rattle.vx_history.specs.Refusals.{some_below, is_primary}
use Rattle.vx_history.specs.Step.{outcome_of, done}
use Rattle.vx_history.specs.Steps.{site_made, raw_made}
use Rattle.vx_history.specs.World.{Node, World, Volume}
use Rattle.vx_history.specs.declared.event.Event.TheVariants.{Site as MakeSite, Raw as MakeRaw}
use Rattle.vx_script.specs.declared.line.ScriptLine.TheVariants.{Site, Raw, Write, Put, Read}
use Rattle.vx_order.specs.Calls.{asks_role, takes_calls, call_role, call_unknown, span_role, span_unknown}
use Rattle.vx_order.specs.Order.{line_refusal}
use Rattle.vx_order.specs.Shapes.{raw_size, taken, wrong_size}
use Rattle.vx_order.specs.Sites.{site_named, volume_of, rvg_of}
use Rattle.vx_order.specs.Spans.{span_of}
use Rattle.vx_order.specs.Subject.{first_name}
use Rattle.vx_order.specs.Tests.{when}
use Rattle.vx_order.specs.declared.facts.RvgFacts.{RvgFacts}
use Rattle.vx_order.specs.declared.facts.SiteFacts.{SiteFacts}
use Rattle.vx_order.specs.declared.facts.VolumeFacts.{VolumeFacts}
use Rattle.vx_order.specs.declared.facts.VolumeKind.{VolumeKind}
use Rattle.vx_order.specs.declared.facts.VolumeKind.TheVariants.{Data}
use Rattle.vx_order.specs.declared.span.Way.{Way}
use Rattle.vx_order.specs.declared.span.Way.TheVariants.{Writes, Reads}
use Rattle.vx_events.specs.Facts.{site_fact, facts_of, values_from, site_number, volume_fact, volume_number, place_of, group_by, group_fact}
use Rattle.vx_events.specs.Lines.{write_in}
use Rattle.vx_events.specs.Plain.{IsUnlinked, IsSizedAs}
use Rattle.vx_events.proofs.Passing.{IsCall, neither}
use Rattle.vx_events.proofs.Steps.{site_step, raw_step, CanPut}
use Rattle.vx_events.proofs.Refused.{when_none, not_false, Named, passes, site_may, raw_may}
use Rattle.vx_events.proofs.RefusedCalls.{CallMay, WriteMay, write_may, put_may, read_may}
use Rattle.vx_events.proofs.Places.{position_within, some_same}
use Rattle.vx_events.proofs.Values.{length-values_from, slice_get-values_from}

-- ---- what the tests found

-- the site of a name
pub seat_in : (w : World) (name : List ℕ) (n : Named (facts_of w) name) → (site_number w name < w.sites) × (n.facts ≡ site_fact (w.nodes (site_number w name)))
seat_in w name n =
    let number : site_number w name ≡ n.at.place = ap (λ (o : Option ℕ). unwrap_or o 0) n.at.is in
    let inside : n.at.place < length (facts_of w) = position_within (λ site. bytes_eq site.name name) (facts_of w) n.at.place n.at.is in
    let many : length (facts_of w) ≡ w.sites = length-values_from (λ i. site_fact (w.nodes i)) 0 w.sites in
    let below : n.at.place < w.sites = omega (arith, many, inside) in
    let start : 0 + n.at.place ≡ site_number w name = omega (arith, number) in
    (omega (arith, below, number), some_same (sym n.at.there ∙ slice_get-values_from (λ i. site_fact (w.nodes i)) 0 w.sites n.at.place below ∙ ap (λ (i : ℕ). Some (site_fact (w.nodes i))) start))

pub up_in : (w : World) (name : List ℕ) (n : Named (facts_of w) name) → n.facts.state ≡ IsUp → (w.nodes (site_number w name)).state ≡ IsUp
up_in w name n up = sym (ap (λ (f : SiteFacts). f.state) (seat_in w name n).1) ∙ up

pub running_in : (w : World) (name : List ℕ) (n : Named (facts_of w) name) → (w.nodes (site_number w name)).state ≡ IsUp → ((rvg : RvgFacts) → n.facts.rvg ≡ Some rvg → rvg.halted ≡ None)
    → (w.nodes (site_number w name)).halted ≡ None
running_in w name n up running =
    let m : Node = w.nodes (site_number w name) in
    running (group_fact m) (ap (λ (f : SiteFacts). f.rvg) (seat_in w name n).1 ∙ ap (λ (t : SiteState). group_by t m) up)

-- no site has the name of a new one
pub absent : (b : Bool) (x : SiteFacts) (more : Option SiteFacts) → is_some (cond b (Some x) more) ≡ false → (b ≡ false) × (is_some more ≡ false)
absent true x more e = absurd (cc)
absent false x more e = (refl, e)

pub none_named : (nodes : ℕ → Node) (name : List ℕ) (k n : ℕ) → is_some (site_named (values_from (λ i. site_fact (nodes i)) k n) name) ≡ false → (i : ℕ) → i < n → bytes_eq (nodes (k + i)).name name ≡ false
none_named nodes name k zero e i h = absurd (omega (arith, h))
none_named nodes name k (suc n) e zero h =
    let start : k ≡ k + 0 = omega arith in
    subst (λ (j : ℕ). bytes_eq (nodes j).name name ≡ false) start
    (absent (bytes_eq (nodes k).name name) (site_fact (nodes k)) (site_named (values_from (λ i. site_fact (nodes i)) (k + 1) n) name) e).0
none_named nodes name k (suc n) e (suc i) h =
    let over : k + 1 + i ≡ k + suc i = omega arith in
    subst (λ (j : ℕ). bytes_eq (nodes j).name name ≡ false) over
    (none_named nodes name (k + 1) n
    (absent (bytes_eq (nodes k).name name) (site_fact (nodes k)) (site_named (values_from (λ i. site_fact (nodes i)) (k + 1) n) name) e).1 i (omega (arith, h)))

pub none_under : (n : ℕ) (test : ℕ → Bool) → ((k : ℕ) → k < n → test k ≡ false) → some_below n test ≡ false
none_under zero test none = refl
none_under (suc k) test none = neither (test k) (some_below k test) (none k (omega arith)) (none_under k test (λ j h. none j (omega (arith, h))))

pub site_free : (w : World) (files : Bool) (name : List ℕ) (disks blocks : ℕ) → line_refusal (facts_of w) files (Site name disks blocks) ≡ None → outcome_of w (MakeSite name disks blocks) ≡ done (site_made w name disks blocks)
unfolding taken
site_free w files name disks blocks free =
    let p = passes (facts_of w) files (Site name disks blocks) free in
    let may = site_may (facts_of w) files name disks blocks free in
    let many : length (facts_of w) ≡ w.sites = length-values_from (λ i. site_fact (w.nodes i)) 0 w.sites in
    let none : is_some (site_named (facts_of w) name) ≡ false = when_none (is_some (site_named (facts_of w) name)) (Exists name) p.free in
    site_step w name disks blocks
    (none_under w.sites (λ k. bytes_eq (w.nodes k).name name)
    (λ k h. let start : 0 + k ≡ k = omega arith in subst (λ (j : ℕ). bytes_eq (w.nodes j).name name ≡ false) start (none_named w.nodes name 0 w.sites none k h)))
    (omega (arith, may.few_sites, many)) may.few_disks may.some_disks may.some_blocks

pub raw_free : (w : World) (files : Bool) (name : List ℕ) → line_refusal (facts_of w) files (Raw name) ≡ None → outcome_of w (MakeRaw (site_number w name)) ≡ done (raw_made w (site_number w name))
unfolding first_name wrong_size
raw_free w files name free =
    let p = passes (facts_of w) files (Raw name) free in
    let may = raw_may (facts_of w) files name free in
    let seat = seat_in w name may.0 in
    let size : raw_size (Some may.0.facts) ≡ None = subst (λ (o : Option SiteFacts). raw_size o ≡ None) may.0.found p.size in
    let shape : is_raw_shape may.0.facts.disks may.0.facts.blocks ≡ true =
    not_false (is_raw_shape may.0.facts.disks may.0.facts.blocks) (when_none (not (is_raw_shape may.0.facts.disks may.0.facts.blocks)) WrongSize size) in
    raw_step w (site_number w name) seat.0 (sym (ap (λ (f : SiteFacts). f.state) seat.1) ∙ may.1) (subst (λ (f : SiteFacts). is_raw_shape f.disks f.blocks ≡ true) seat.1 shape)

-- each volume of a raw set is a data volume
pub found_by : (y : Volume) (rest : Option VolumeFacts) (v : VolumeFacts) (b : Bool) → cond b (Some (volume_fact y)) rest ≡ Some v → (rest ≡ Some v → v.kind ≡ Data) → v.kind ≡ Data
found_by y rest v true e more = ap (λ (f : VolumeFacts). f.kind) (sym (some_same e))
found_by y rest v false e more = more e

pub found_data : (p : VolumeFacts → Bool) (vs : List Volume) (v : VolumeFacts) → find p (map volume_fact vs) ≡ Some v → v.kind ≡ Data
found_data p [] v e = absurd (cc)
found_data p (y ∷ vs) v e = found_by y (find p (map volume_fact vs)) v (p (volume_fact y)) e (found_data p vs v)

pub role_by : (role : Role) → when (true && not (is_primary role)) WrongRole ≡ None → role ≡ Primary
role_by Primary e = refl
role_by Secondary e = absurd (cc)
role_by (Handing to) e = absurd (cc)
role_by Bunker e = absurd (cc)

pub primary_by : (kind : VolumeKind) (rvg : RvgFacts) → kind ≡ Data → when (true && not (takes_calls kind (Some rvg))) WrongRole ≡ None → rvg.role ≡ Primary
primary_by kind rvg is e = role_by rvg.role (subst (λ (k : VolumeKind). when (true && not (takes_calls k (Some rvg))) WrongRole ≡ None) is e)

-- a data volume is written and read at a primary
pub asks_primary : (found : Option VolumeFacts) (rvg : RvgFacts) (name : List ℕ) (way : Way) → asks_role way ≡ true → ((v : VolumeFacts) → found ≡ Some v → v.kind ≡ Data) → call_unknown found name ≡ None
    → call_role (Some rvg) found way ≡ None → rvg.role ≡ Primary
asks_primary None rvg name way asks kind e role = absurd (cc)
asks_primary (Some v) rvg name way asks kind e role =
    primary_by v.kind rvg (kind v refl) (subst (λ (b : Bool). when (b && not (takes_calls v.kind (Some rvg))) WrongRole ≡ None) asks role)

pub led_at : (n : Node) (volume : List ℕ) (start count : ℕ) (way : Way) → asks_role way ≡ true → n.state ≡ IsUp
    → span_unknown (Some (site_fact n)) (Some (record { volume = volume; start = start; count = count; way = way })) ≡ None
    → span_role (Some (site_fact n)) (Some (record { volume = volume; start = start; count = count; way = way })) ≡ None → n.role ≡ Primary
led_at n volume start count way asks up known role =
    let p : VolumeFacts → Bool = λ v. bytes_eq v.name volume in
    let found : Option VolumeFacts = find p (map volume_fact n.volumes) in
    let volume_is : volume_of (Some (site_fact n)) volume ≡ found = ap (λ (s : SiteState). if is_up s then found else None) up in
    let rvg_is : rvg_of (Some (site_fact n)) ≡ Some (group_fact n) = ap (λ (s : SiteState). if is_up s then group_by s n else None) up in
    let role_led : call_role (Some (group_fact n)) (volume_of (Some (site_fact n)) volume) way ≡ None =
    subst (λ (o : Option RvgFacts). call_role o (volume_of (Some (site_fact n)) volume) way ≡ None) rvg_is role in
    asks_primary found (group_fact n) volume way asks (found_data p n.volumes)
    (subst (λ (o : Option VolumeFacts). call_unknown o volume ≡ None) volume_is known)
    (subst (λ (o : Option VolumeFacts). call_role (Some (group_fact n)) o way ≡ None) volume_is role_led)

pub primary_at : (n : Node) (volume : List ℕ) (start count : ℕ) → n.state ≡ IsUp
    → span_unknown (Some (site_fact n)) (Some (record { volume = volume; start = start; count = count; way = Writes })) ≡ None
    → span_role (Some (site_fact n)) (Some (record { volume = volume; start = start; count = count; way = Writes })) ≡ None → n.role ≡ Primary
primary_at n volume start count up known role = led_at n volume start count Writes refl up known role

pub primary_in : (w : World) (name volume : List ℕ) (start count : ℕ) (way : Way) (n : Named (facts_of w) name) → asks_role way ≡ true → (w.nodes (site_number w name)).state ≡ IsUp
    → span_unknown (site_named (facts_of w) name) (Some (record { volume = volume; start = start; count = count; way = way })) ≡ None
    → span_role (site_named (facts_of w) name) (Some (record { volume = volume; start = start; count = count; way = way })) ≡ None → (w.nodes (site_number w name)).role ≡ Primary
primary_in w name volume start count way n asks up known role =
    let m : Node = w.nodes (site_number w name) in
    let site : site_named (facts_of w) name ≡ Some (site_fact m) = n.found ∙ ap (λ (f : SiteFacts). Some f) (seat_in w name n).1 in
    led_at m volume start count way asks up
    (subst (λ (o : Option SiteFacts). span_unknown o (Some (record { volume = volume; start = start; count = count; way = way })) ≡ None) site known)
    (subst (λ (o : Option SiteFacts). span_role o (Some (record { volume = volume; start = start; count = count; way = way })) ≡ None) site role)

-- ---- runs of blocks

pub volume_at : (vs : List Volume) (i : ℕ) (x : VolumeFacts) → slice_get (map volume_fact vs) i ≡ Some x → (v : Volume) × (slice_get vs i ≡ Some v) × (x.blocks ≡ v.blocks)
volume_at [] i x e = absurd (cc)
volume_at (v ∷ vs) zero x e = (v, refl, ap (λ (f : VolumeFacts). f.blocks) (sym (some_same e)))
volume_at (v ∷ vs) (suc i) x e = volume_at vs i x e

pub volume_kind : (vs : List Volume) (i : ℕ) (x : VolumeFacts) → slice_get (map volume_fact vs) i ≡ Some x → x.kind ≡ Data
volume_kind [] i x e = absurd (cc)
volume_kind (v ∷ vs) zero x e = ap (λ (f : VolumeFacts). f.kind) (sym (some_same e))
volume_kind (v ∷ vs) (suc i) x e = volume_kind vs i x e

-- a run of blocks that no test of the line refuses
pub record Called (w : World) (name volume : List ℕ) (start count : ℕ) : Type 0 where
  pub below : site_number w name < w.sites
  pub up : (w.nodes (site_number w name)).state ≡ IsUp
  pub running : (w.nodes (site_number w name)).halted ≡ None
  pub known : volume_number (w.nodes (site_number w name)) volume < length (w.nodes (site_number w name)).volumes
  pub some : 1 ≤ count
  pub few : count ≤ 16
  pub within : start + count ≤ (w.nodes (site_number w name)).base.size (volume_number (w.nodes (site_number w name)) volume)

pub called : (w : World) (name volume : List ℕ) (start count : ℕ) → IsSizedAs (w.nodes (site_number w name)) → CallMay (facts_of w) name volume start count → Called w name volume start count
called w name volume start count sized may =
    let n : Node = w.nodes (site_number w name) in
    let seat = seat_in w name may.site in
    let up : n.state ≡ IsUp = up_in w name may.site may.up in
    let place : place_of (map volume_fact n.volumes) volume ≡ Some may.at.place = ap (λ (f : SiteFacts). place_of f.volumes volume) (sym seat.1) ∙ may.at.is in
    let number : volume_number n volume ≡ may.at.place = ap (λ (o : Option ℕ). unwrap_or o 0) place in
    let got : slice_get (map volume_fact n.volumes) may.at.place ≡ Some may.found = ap (λ (f : SiteFacts). slice_get f.volumes may.at.place) (sym seat.1) ∙ may.at.there in
    let x = volume_at n.volumes may.at.place may.found got in
    let inside : may.at.place < length n.volumes = slice_get_within n.volumes may.at.place x.0 x.1 in
    record {
      below = seat.0;
      up = up;
      running = running_in w name may.site up may.running;
      known = omega (arith, number, inside);
      some = may.some;
      few = may.few;
      within = omega (arith, may.range, x.2, sized.each may.at.place x.0 x.1, ap (λ (v : ℕ). n.base.size v) number);
    }

pub call_of : (w : World) (name volume : List ℕ) (start count : ℕ) → Called w name volume start count → (w.nodes (site_number w name)).role ≡ Primary
    → IsCall w (site_number w name) (volume_number (w.nodes (site_number w name)) volume) start count
call_of w name volume start count c primary = record { site = c.below; up = c.up; running = c.running; primary = primary; known = c.known; some = c.some; few = c.few; within = c.within }

pub write_primary : (w : World) (files : Bool) (name volume : List ℕ) (start count fill : ℕ) → line_refusal (facts_of w) files (Write name volume start count fill) ≡ None → (w.nodes (site_number w name)).role ≡ Primary
unfolding first_name span_of
write_primary w files name volume start count fill free =
    let p = passes (facts_of w) files (Write name volume start count fill) free in
    let may = write_may (facts_of w) files name volume start count fill free in
    primary_in w name volume start count Writes may.call.site refl (up_in w name may.call.site may.call.up) p.volume p.call_role

pub put_primary : (w : World) (files : Bool) (name volume : List ℕ) (start : ℕ) (bytes : List ℕ) → line_refusal (facts_of w) files (Put name volume start bytes) ≡ None → (w.nodes (site_number w name)).role ≡ Primary
unfolding first_name span_of
put_primary w files name volume start bytes free =
    let p = passes (facts_of w) files (Put name volume start bytes) free in
    let may = put_may (facts_of w) files name volume start bytes free in
    primary_in w name volume start 1 Writes may.call.site refl (up_in w name may.call.site may.call.up) p.volume p.call_role

-- a read that no test refuses is at a primary
pub read_primary : (w : World) (files : Bool) (name volume : List ℕ) (start count : ℕ) → line_refusal (facts_of w) files (Read name volume start count) ≡ None → (w.nodes (site_number w name)).role ≡ Primary
unfolding first_name span_of
read_primary w files name volume start count free =
    let p = passes (facts_of w) files (Read name volume start count) free in
    let may = read_may (facts_of w) files name volume start count free in
    primary_in w name volume start count Reads may.site refl (up_in w name may.site may.up) p.volume p.call_role

pub blocks_filled : (count fill : ℕ) → blocks_in (replicate (512 * count) fill) ≡ count
blocks_filled count fill = let many : length (replicate (512 * count) fill) ≡ 512 * count = length-replicate {A = ℕ} (512 * count) fill in omega (arith, many)

-- a write that no test of the line refuses, and that is not one too many
pub can_put : (w : World) (name volume : List ℕ) (start count : ℕ) (bytes : List ℕ) → IsSizedAs (w.nodes (site_number w name)) → IsUnlinked w → (may : WriteMay (facts_of w) name volume start count) → blocks_in bytes ≡ count
    → (w.nodes (site_number w name)).role ≡ Primary → (w.nodes (site_number w name)).safe < MOST_NUMBER → CanPut w (site_number w name) (write_in w name volume start bytes)
can_put w name volume start count bytes sized none may many primary free =
    let n : Node = w.nodes (site_number w name) in
    let c = called w name volume start count sized may.call in
    let seat = seat_in w name may.call.site in
    let got : slice_get (map volume_fact n.volumes) may.call.at.place ≡ Some may.call.found = ap (λ (f : SiteFacts). slice_get f.volumes may.call.at.place) (sym seat.1) ∙ may.call.at.there in
    let kind : may.call.found.kind ≡ Data = volume_kind n.volumes may.call.at.place may.call.found got in
    let rvg : may.call.site.facts.rvg ≡ Some (group_fact n) = ap (λ (f : SiteFacts). f.rvg) seat.1 ∙ ap (λ (t : SiteState). group_by t n) c.up in
    record {
      call = subst (λ (k : ℕ). IsCall w (site_number w name) (volume_number n volume) start k) (sym many) (call_of w name volume start count c primary);
      fits = omega (arith, many, may.fits (group_fact n) rvg kind);
      free = free;
      unlinked = none;
    }
