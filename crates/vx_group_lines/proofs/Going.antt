-- Which lines go to the group of their site, as the tests see it.
use Rattle.std.proofs.Common.{◌≡◌, ◌∙◌, ◌≤◌, ◌++◌, ℕ, zero, suc, Bool, true, false, List, [], ◌∷◌, map, length, ap, sym, subst, refl, arith}
use Rattle.std.specs.Prelude.{◌&&◌, ◌||◌, eqb, not, Option, Some, None, IsSome, is_some, slice_get, unwrap_or, if◌then◌else◌}
use Rattle.std.specs.Str.{bytes_eq}
use Rattle.std.proofs.lemmas.Bool.Decides.{nat_tests}
use Rattle.vx_config.specs.declared.entry.VolumeEntry.{VolumeEntry}
use Rattle.vx_disk.specs.declared.shelf.Shelf.{Ghosts}
use Rattle.vx_history.specs.Doubts.{Doubted}
use Rattle.vx_history.specs.World.{Node, Volume, World}
use Rattle.vx_model.proofs.Lists.{get_there}
use Rattle.vx_order.specs.Calls.{is_data}
use Rattle.vx_order.specs.Order.{line_refusal}
use Rattle.vx_order.specs.Sites.{named_facts, unknown_one}
use Rattle.vx_order.specs.Subject.{first_name}
use Rattle.vx_order.specs.declared.facts.SiteFacts.{SiteFacts}
use Rattle.vx_order.specs.declared.facts.VolumeFacts.{VolumeFacts}
use Rattle.vx_order.specs.declared.facts.VolumeKind.{VolumeKind}
use Rattle.vx_order.specs.declared.facts.VolumeKind.TheVariants.{Plain}
use Rattle.vx_script.specs.declared.line.ScriptLine.{ScriptLine}
use Rattle.vx_script.specs.declared.line.ScriptLine.TheVariants.{GroupInit, GroupDeport, GroupImport, Volume as VolumeLine, PlexDetach, PlexAttach, Rvg, Disk, Crash, Fuse, Recover, Status, Write, Put, Read, Show}
use Rattle.vx_events.proofs.Places.{position_within, some_same}
use Rattle.vx_events.proofs.Refused.{Named, named, passes}
use Rattle.vx_events.proofs.RefusedCalls.{CallMay, put_may, read_may, show_may, write_may}
use Rattle.vx_events.specs.Facts.{place_of, seat_of, site_number, volume_fact}
use Rattle.vx_events.specs.GroupLines.{is_over_group}
use Rattle.vx_events.specs.GroupNotes.{note_at}
use Rattle.vx_events.specs.GroupViews.{config_of, plain_fact, volumes_of}
use Rattle.vx_events.specs.LinkedFacts.{linked_fact}
use Rattle.vx_events.specs.RvgFits.{entries_noted, rvg_noted}
use Rattle.vx_events.specs.RvgOver.{fact_kind, kind_named}
use Rattle.vx_events.specs.RvgViews.{data_facts, data_units, is_over_rvg, others_of, over_table, table_at}
use Rattle.vx_events.specs.StepsOver.{fact_of_group, fact_over, over_group_at}
use Rattle.vx_yard.proofs.NamedSite.{place_at}
use Rattle.vx_yard.proofs.Seats.{named_some, volume_there}
use Rattle.vx_yard.specs.Standing.{StandsFor}
use Rattle.vx_yard.specs.Working.{IsFree}
use Rattle.vx_yard.specs.Yards.{in_files}
use Rattle.vx_yard.specs.declared.yard.Yard.{Yard}
use Rattle.vx_group_lines.specs.Plain.{goes_to_group, grouped_at, is_group_line, is_plain_volume, plain_at, starts_with_data}

-- ---- the volumes of a site

pub plain_first : (vs : List VolumeEntry) → starts_with_data (map plain_fact vs) ≡ false
plain_first [] = refl
plain_first (v ∷ vs) = refl

pub data_first : (vs : List VolumeEntry) (places : List ℕ) (xs : List Volume) (others : List VolumeFacts) → 1 ≤ length xs → starts_with_data (data_facts vs places xs ++ others) ≡ true
data_first vs places [] others some = absurd (omega (arith, some))
data_first vs [] (x ∷ xs) others some = refl
data_first vs (p ∷ places) (x ∷ xs) others some = refl

pub some_volume : (b : Bool) (k : ℕ) → (b && not (eqb k 0)) ≡ true → 1 ≤ k
some_volume true k is = grind (arith, nat_tests)
some_volume false k is = absurd (let clash : false ≡ true = is in cc)

plain_kinds : (vs : List VolumeEntry) (p : ℕ) (v : VolumeFacts) → slice_get (map plain_fact vs) p ≡ Some v → v.kind ≡ Plain
plain_kinds [] p v at = absurd (cc)
plain_kinds (e ∷ vs) zero v at = ap (λ (f : VolumeFacts). f.kind) (sym (some_same at))
plain_kinds (e ∷ vs) (suc p) v at = plain_kinds vs p v at

-- ---- what the tests see of a site, over a group or not

abbrev pub seen_by : World → ℕ → Bool → SiteFacts
seen_by w s b = if b then fact_of_group (w.nodes s) (note_at (w.nodes s)) else linked_fact w s

grouped_by : (w : World) (s : ℕ) (b : Bool) → (seen_by w s b).grouped ≡ (b || is_over_rvg (w.nodes s))
grouped_by w s true = refl
grouped_by w s false = refl

abbrev pub shown_table : Node → Bool → List VolumeFacts
shown_table n b = if b then over_table n (note_at n) else map volume_fact n.volumes

rvg_alone : (n : Node) (b : Bool) → is_over_rvg n ≡ b → (b && not (starts_with_data (shown_table n b))) ≡ false
rvg_alone n false is = refl
rvg_alone n true is =
    ap not (data_first (entries_noted (note_at n)) (data_units (rvg_noted (note_at n))) n.volumes (others_of (config_of (note_at n).config)) (some_volume (is_some n.group) (length n.volumes) is))

alone_by : (w : World) (s : ℕ) (b : Bool) → ((seen_by w s b).grouped && not (starts_with_data (seen_by w s b).volumes)) ≡ b
alone_by w s true = ap not (plain_first (volumes_of (config_of (note_at (w.nodes s)).config)))
alone_by w s false = rvg_alone (w.nodes s) (is_over_rvg (w.nodes s)) refl

module _ {R : Type 0} {g : Ghosts R} (d : Doubted) (y : Yard R g) (name : List ℕ) (s : ℕ) (f : SiteFacts) (stands : StandsFor d y) (seat : seat_of y.facts.items name ≡ Some s) (at : slice_get y.facts.items s ≡ Some f) where
  number : s ≡ site_number d.world name
  number = sym (place_at d y name s stands seat).number

  fact_is : f ≡ fact_over d.world s
  fact_is = some_same (sym at ∙ (place_at d y name s stands seat).fact)

  pub grouped_is : f.grouped ≡ grouped_at d.world name
  grouped_is =
      ap (λ (x : SiteFacts). x.grouped) fact_is ∙ grouped_by d.world s (is_over_group (d.world.nodes s))
      ∙ ap (λ (k : ℕ). is_over_group (d.world.nodes k) || is_over_rvg (d.world.nodes k)) number

  alone_is : (f.grouped && not (starts_with_data f.volumes)) ≡ over_group_at d.world name
  alone_is =
      ap (λ (x : SiteFacts). x.grouped && not (starts_with_data x.volumes)) fact_is ∙ alone_by d.world s (is_over_group (d.world.nodes s))
      ∙ ap (λ (k : ℕ). is_over_group (d.world.nodes k)) number

  pub alone_then : f.grouped ≡ true → not (starts_with_data f.volumes) ≡ over_group_at d.world name
  alone_then grouped = ap (λ (b : Bool). b && not (starts_with_data f.volumes)) (sym grouped) ∙ alone_is

  pub alone_off : f.grouped ≡ false → f.grouped ≡ over_group_at d.world name
  alone_off grouped = grouped ∙ ap (λ (b : Bool). b && not (starts_with_data f.volumes)) (sym grouped) ∙ alone_is

  -- a volume of a group
  plain_by : (volume : List ℕ) (p : ℕ) (v : VolumeFacts) (b : Bool) → is_over_group (d.world.nodes s) ≡ b → (seen_by d.world s b).grouped ≡ true → place_of (seen_by d.world s b).volumes volume ≡ Some p
      → slice_get (seen_by d.world s b).volumes p ≡ Some v → not (is_data v.kind) ≡ (b || (is_over_rvg (d.world.nodes s) && not (is_data (kind_named (d.world.nodes s) volume))))
  plain_by volume p v true is grouped place there = ap (λ (k : VolumeKind). not (is_data k)) (plain_kinds (volumes_of (config_of (note_at (d.world.nodes s)).config)) p v there)
  plain_by volume p v false is grouped place there =
      let kind : kind_named (d.world.nodes s) volume ≡ v.kind =
      ap (λ (o : Option ℕ). fact_kind (slice_get (table_at (d.world.nodes s)) (unwrap_or o 0))) place ∙ ap fact_kind there in
      ap (λ (k : VolumeKind). not (is_data k)) (sym kind) ∙ ap (λ (b : Bool). b && not (is_data (kind_named (d.world.nodes s) volume))) (sym grouped)

  plain_is : (volume : List ℕ) (p : ℕ) (v : VolumeFacts) → f.grouped ≡ true → place_of f.volumes volume ≡ Some p → slice_get f.volumes p ≡ Some v → not (is_data v.kind) ≡ plain_at d.world name volume
  plain_is volume p v grouped place there =
      plain_by volume p v (is_over_group (d.world.nodes s)) refl (ap (λ (x : SiteFacts). x.grouped) (sym fact_is) ∙ grouped) (ap (λ (x : SiteFacts). place_of x.volumes volume) (sym fact_is) ∙ place)
      (ap (λ (x : SiteFacts). slice_get x.volumes p) (sym fact_is) ∙ there)
      ∙ ap (λ (k : ℕ). is_over_group (d.world.nodes k) || (is_over_rvg (d.world.nodes k) && not (is_data (kind_named (d.world.nodes k) volume)))) number

  pub plain_seen : (volume : List ℕ) (p : ℕ) → f.grouped ≡ true → place_of f.volumes volume ≡ Some p → is_plain_volume (slice_get f.volumes p) ≡ plain_at d.world name volume
  plain_seen volume p grouped place =
      let there = get_there f.volumes p (position_within (λ (v : VolumeFacts). bytes_eq v.name volume) f.volumes p place) in
      ap (λ (o : Option VolumeFacts). is_plain_volume o) there.1 ∙ plain_is volume p there.0 grouped place there.1

  -- at a site that is no group none is one
  pub plain_off : (volume : List ℕ) → f.grouped ≡ false → false ≡ plain_at d.world name volume
  plain_off volume grouped = by (over_group_at d.world name) (is_over_rvg (d.world.nodes (site_number d.world name))) (sym grouped ∙ grouped_is)
    where
      by : (a b : Bool) → false ≡ (a || b) → false ≡ (a || (b && not (is_data (kind_named (d.world.nodes (site_number d.world name)) volume))))
      by true b is = absurd (let clash : false ≡ true = is in cc)
      by false true is = absurd (let clash : false ≡ true = is in cc)
      by false false is = refl

-- ---- the site and the volume of a line, as the tests found them

-- the site of a line that may go to its group
abbrev pub site_worded : ScriptLine → Option (List ℕ)
site_worded (Disk site disk state) = Some site
site_worded (Crash site pick) = Some site
site_worded (Fuse site calls pick) = Some site
site_worded (Recover site) = Some site
site_worded (Status site) = Some site
site_worded (Write site volume start count fill) = Some site
site_worded (Put site volume start bytes) = Some site
site_worded (Read site volume start count) = Some site
site_worded (Show site volume start count) = Some site
site_worded other = None

-- and its volume
abbrev pub volume_worded : ScriptLine → Option (List ℕ)
volume_worded (Write site volume start count fill) = Some volume
volume_worded (Put site volume start bytes) = Some volume
volume_worded (Read site volume start count) = Some volume
volume_worded (Show site volume start count) = Some volume
volume_worded other = None

names_first : (line : ScriptLine) (site : List ℕ) → site_worded line ≡ Some site → first_name line ≡ Some site
unfolding first_name
names_first (Disk name disk state) site is = is
names_first (Crash name pick) site is = is
names_first (Fuse name calls pick) site is = is
names_first (Recover name) site is = is
names_first (Status name) site is = is
names_first (Write name volume start count fill) site is = is
names_first (Put name volume start bytes) site is = is
names_first (Read name volume start count) site is = is
names_first (Show name volume start count) site is = is
names_first other site is = absurd (cc)

named_line : (sites : List SiteFacts) (files : Bool) (line : ScriptLine) (name : List ℕ) → first_name line ≡ Some name → line_refusal sites files line ≡ None → Named sites name
named_line sites files line name is free = named sites name (subst (λ (o : Option (List ℕ)). unknown_one o (named_facts sites o) ≡ None) is (passes sites files line free).known)

module _ {R : Type 0} {g : Ghosts R} where
  tests_free : (y : Yard R g) (line : ScriptLine) (site : List ℕ) → site_worded line ≡ Some site → IsFree y line → line_refusal y.facts.items (in_files y) line ≡ None
  tests_free y (Disk name disk state) site is free = free
  tests_free y (Crash name pick) site is free = free
  tests_free y (Fuse name calls pick) site is free = free
  tests_free y (Recover name) site is free = free
  tests_free y (Status name) site is free = free
  tests_free y (Write name volume start count fill) site is free = free
  tests_free y (Put name volume start bytes) site is free = free
  tests_free y (Read name volume start count) site is free = free
  tests_free y (Show name volume start count) site is free = free
  tests_free y other site is free = absurd (cc)

  pub finds_site : (y : Yard R g) (line : ScriptLine) (site : List ℕ) → site_worded line ≡ Some site → IsFree y line → IsSome (seat_of y.facts.items site)
  finds_site y line site is free = named_some y site (named_line y.facts.items (in_files y) line site (names_first line site is) (tests_free y line site is free))

  there_by : (y : Yard R g) (name site volume wanted : List ℕ) (start count s : ℕ) (f : SiteFacts) → CallMay y.facts.items name volume start count → Some name ≡ Some site → Some volume ≡ Some wanted
      → seat_of y.facts.items site ≡ Some s → slice_get y.facts.items s ≡ Some f → IsSome (place_of f.volumes wanted)
  there_by y name site volume wanted start count s f may is same seat at =
      subst (λ (v : List ℕ). IsSome (place_of f.volumes v)) (some_same same)
      (volume_there y name volume start count s f may (ap (λ (x : List ℕ). seat_of y.facts.items x) (some_same is) ∙ seat) at)

  pub finds_volume : (y : Yard R g) (line : ScriptLine) (site volume : List ℕ) → site_worded line ≡ Some site → volume_worded line ≡ Some volume → IsFree y line → (s : ℕ) (f : SiteFacts)
      → seat_of y.facts.items site ≡ Some s → slice_get y.facts.items s ≡ Some f → IsSome (place_of f.volumes volume)
  finds_volume y (Write name v start count fill) site volume is same free s f seat at = there_by y name site v volume start count s f (write_may y.facts.items (in_files y) name v start count fill free).call is same seat at
  finds_volume y (Put name v start bytes) site volume is same free s f seat at = there_by y name site v volume start 1 s f (put_may y.facts.items (in_files y) name v start bytes free).call is same seat at
  finds_volume y (Read name v start count) site volume is same free s f seat at = there_by y name site v volume start count s f (read_may y.facts.items (in_files y) name v start count free) is same seat at
  finds_volume y (Show name v start count) site volume is same free s f seat at = there_by y name site v volume start count s f (show_may y.facts.items (in_files y) name v start count free) is same seat at
  finds_volume y other site volume is same free s f seat at = absurd (cc)

-- ---- lines that go nowhere else

pub always_goes : (w : World) (line : ScriptLine) → is_group_line line ≡ true → goes_to_group w line ≡ true
always_goes w (GroupInit name) is = refl
always_goes w (GroupDeport name) is = refl
always_goes w (GroupImport name) is = refl
always_goes w (VolumeLine name volume blocks mirrors layout log map policy) is = refl
always_goes w (PlexDetach name volume plex) is = refl
always_goes w (PlexAttach name volume plex) is = refl
always_goes w (Rvg name srl maps volumes) is = refl
always_goes w other is = absurd (cc)
