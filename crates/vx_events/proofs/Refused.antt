-- What is known of a line that is not refused before it works.
use Rattle.std.proofs.Common.{◌≡◌, ◌∙◌, ◌+◌, ◌<◌, ◌≤◌, ℕ, suc, List, [], ◌∷◌, length, ap, subst, refl, arith, Bool, true, false}
use Rattle.std.proofs.lemmas.Bool.{and_parts, or_parts}
use Rattle.std.specs.Prelude.{◌-◌, ◌*◌, Option, Some, None, slice_get, cond, not, ◌&&◌, ◌||◌, ◌==◌, nat_lt, nat_le, if◌then◌else◌}
use Rattle.std.specs.List.{find, position, position_from}
use Rattle.std.specs.Str.{bytes_eq}
use Rattle.std.proofs.lemmas.Bool.Decides.{nat_tests}
use Rattle.std.proofs.lemmas.Iterator.Adapters.{position_from-zero}
use Rattle.vx_model.specs.declared.no.No.{No}
use Rattle.vx_model.specs.declared.no.No.TheVariants.{Down as NotUp}
use Rattle.vx_model.specs.declared.site.SiteState.{SiteState}
use Rattle.vx_model.specs.declared.site.SiteState.TheVariants.{Bare, Up}
use Rattle.vx_script.specs.declared.line.ScriptLine.{ScriptLine}
use Rattle.vx_script.specs.declared.line.ScriptLine.TheVariants.{Site, Raw, Disk, Crash, Fuse, Recover, Apply, Status}
use Rattle.vx_order.specs.declared.facts.SiteFacts.{SiteFacts}
use Rattle.vx_order.specs.declared.facts.RvgFacts.{RvgFacts}
use Rattle.vx_order.specs.Order.{line_refusal}
use Rattle.vx_order.specs.Tests.{when, first_said_no}
use Rattle.vx_order.specs.Subject.{first_name, second_name, need_of, halt_of}
use Rattle.vx_order.specs.Spans.{span_of}
use Rattle.vx_order.specs.Sites.{named_facts, site_named, unknown_one, down_by, halted_by, site_off, rvg_of, halted_disk, halted_rvg, halted_one}
use Rattle.vx_model.specs.Sites.{is_up, is_bare}
use Rattle.vx_order.specs.Shapes.{line_role, line_unknown, taken, over_limit, wrong_size, site_limit, most_disk_blocks, raw_role, raw_size, disk_unknown}
use Rattle.vx_model.specs.Sizes.{is_raw_shape, map_blocks}
use Rattle.vx_model.specs.declared.limits.TheConstants.{LINK_PLACES}
use Rattle.vx_history.proofs.StateCases.{bare_is, up_is}
use Rattle.vx_order.specs.Calls.{span_role, span_unknown, span_size, span_range}
use Rattle.vx_order.specs.Asks.{ask_of}
use Rattle.vx_order.specs.Links.{place_named}
use Rattle.vx_order.specs.Joining.{ask_taken, ask_limit, ask_size}
use Rattle.vx_order.specs.Sending.{ask_role, ask_unknown, ask_down, ask_paused, ask_replaying, ask_unconfirmed}
use Rattle.vx_order.specs.Holding.{span_down, span_full}

-- none of the tests of a line holds
pub record Passes (sites : List SiteFacts) (files : Bool) (line : ScriptLine) (first second : Option SiteFacts) (here there : Option ℕ) : Type 0 where
  pub known : unknown_one (first_name line) first ≡ None
  pub other_known : unknown_one (second_name line) second ≡ None
  pub up : down_by (need_of line) first second ≡ None
  pub running : halted_by (halt_of line) first second ≡ None
  pub role : line_role line first ≡ None
  pub call_role : span_role first (span_of line) ≡ None
  pub link_role : ask_role (ask_of line) here there first second ≡ None
  pub other : line_unknown line first ≡ None
  pub volume : span_unknown first (span_of line) ≡ None
  pub link : ask_unknown (ask_of line) there first second ≡ None
  pub free : taken sites line first ≡ None
  pub link_free : ask_taken (ask_of line) there first second ≡ None
  pub limit : over_limit (length sites) files line first ≡ None
  pub link_limit : ask_limit (ask_of line) first ≡ None
  pub size : wrong_size line first ≡ None
  pub link_size : ask_size (ask_of line) first second ≡ None
  pub call_size : span_size first (span_of line) ≡ None
  pub range : span_range first (span_of line) ≡ None
  pub link_up : ask_down (ask_of line) there first second ≡ None
  pub call_up : span_down sites first (span_of line) ≡ None
  pub link_goes : ask_paused (ask_of line) there first ≡ None
  pub link_mode : ask_replaying (ask_of line) there first second ≡ None
  pub call_room : span_full sites first (span_of line) ≡ None
  pub confirmed : ask_unconfirmed (ask_of line) first ≡ None

here_none : (test : Option No) (tests : List (Option No)) → first_said_no (test ∷ tests) ≡ None → test ≡ None
unfolding first_said_no
here_none None tests e = refl
here_none (Some x) tests e = absurd (cc)

rest : (test : Option No) (tests : List (Option No)) → first_said_no (test ∷ tests) ≡ None → first_said_no tests ≡ None
unfolding first_said_no
rest None tests e = e
rest (Some x) tests e = absurd (cc)

pub passes : (sites : List SiteFacts) (files : Bool) (line : ScriptLine) → line_refusal sites files line ≡ None
    → Passes sites files line (named_facts sites (first_name line)) (named_facts sites (second_name line)) (place_named sites (first_name line)) (place_named sites (second_name line))
unfolding line_refusal
passes sites files line e =
    let e1 = rest _ _ e in
    let e2 = rest _ _ e1 in
    let e3 = rest _ _ e2 in
    let e4 = rest _ _ e3 in
    let e5 = rest _ _ e4 in
    let e6 = rest _ _ e5 in
    let e7 = rest _ _ e6 in
    let e8 = rest _ _ e7 in
    let e9 = rest _ _ e8 in
    let e10 = rest _ _ e9 in
    let e11 = rest _ _ e10 in
    let e12 = rest _ _ e11 in
    let e13 = rest _ _ e12 in
    let e14 = rest _ _ e13 in
    let e15 = rest _ _ e14 in
    let e16 = rest _ _ e15 in
    let e17 = rest _ _ e16 in
    let e18 = rest _ _ e17 in
    let e19 = rest _ _ e18 in
    let e20 = rest _ _ e19 in
    let e21 = rest _ _ e20 in
    let e22 = rest _ _ e21 in
    let e23 = rest _ _ e22 in
    record {
      known = here_none _ _ e;
      other_known = here_none _ _ e1;
      up = here_none _ _ e2;
      running = here_none _ _ e3;
      role = here_none _ _ e4;
      call_role = here_none _ _ e5;
      link_role = here_none _ _ e6;
      other = here_none _ _ e7;
      volume = here_none _ _ e8;
      link = here_none _ _ e9;
      free = here_none _ _ e10;
      link_free = here_none _ _ e11;
      limit = here_none _ _ e12;
      link_limit = here_none _ _ e13;
      size = here_none _ _ e14;
      link_size = here_none _ _ e15;
      call_size = here_none _ _ e16;
      range = here_none _ _ e17;
      link_up = here_none _ _ e18;
      call_up = here_none _ _ e19;
      link_goes = here_none _ _ e20;
      link_mode = here_none _ _ e21;
      call_room = here_none _ _ e22;
      confirmed = here_none _ _ e23;
    }

pub when_none : (b : Bool) (why : No) → when b why ≡ None → b ≡ false
when_none true why e = absurd (cc)
when_none false why e = refl

-- what tests say of numbers and of each other
pub lt_false : (a b : ℕ) → nat_lt a b ≡ false → b ≤ a
lt_false a b e = grind (arith, nat_tests)

le_false : (a b : ℕ) → nat_le a b ≡ false → b < a
le_false a b e = grind (arith, nat_tests)

le_true : (a b : ℕ) → nat_le a b ≡ true → a ≤ b
le_true a b e = grind (arith, nat_tests)

pub some_of : (a : ℕ) → (a == 0) ≡ false → 1 ≤ a
some_of a e = grind (arith, nat_tests)

pub not_false : (b : Bool) → not b ≡ false → b ≡ true
not_false true e = refl
not_false false e = absurd (cc)

-- an element that passes is found at its place
place_by : {A : Type 0} (p : A → Bool) (k : ℕ) (y : A) (xs : List A) (x : A) (b : Bool) → p y ≡ b → cond b (Some y) (find p xs) ≡ Some x
    → (find p xs ≡ Some x → (i : ℕ) × (position_from p (k + 1) xs ≡ Some ((k + 1) + i)) × (slice_get xs i ≡ Some x))
    → (i : ℕ) × (cond (p y) (Some k) (position_from p (k + 1) xs) ≡ Some (k + i)) × (slice_get (y ∷ xs) i ≡ Some x)
place_by p k y xs x true is e more =
    let zero_more : k ≡ k + 0 = omega arith in
    (0, ap (λ (b : Bool). cond b (Some k) (position_from p (k + 1) xs)) is ∙ ap (λ (j : ℕ). Some j) zero_more, e)
place_by p k y xs x false is e more =
    let next = more e in
    let over : (k + 1) + next.0 ≡ k + suc next.0 = omega arith in
    (suc next.0, ap (λ (b : Bool). cond b (Some k) (position_from p (k + 1) xs)) is ∙ next.1 ∙ ap (λ (j : ℕ). Some j) over, next.2)

found_from : {A : Type 0} (p : A → Bool) (k : ℕ) (xs : List A) (x : A) → find p xs ≡ Some x → (i : ℕ) × (position_from p k xs ≡ Some (k + i)) × (slice_get xs i ≡ Some x)
found_from p k [] x e = absurd (cc)
found_from p k (y ∷ xs) x e = place_by p k y xs x (p y) refl e (found_from p (k + 1) xs x)

pub record FoundAt {A : Type 0} (p : A → Bool) (xs : List A) (x : A) : Type 0 where
  pub place : ℕ
  pub is : position p xs ≡ Some place
  pub there : slice_get xs place ≡ Some x

pub found_at : {A : Type 0} (p : A → Bool) (xs : List A) (x : A) → find p xs ≡ Some x → FoundAt p xs x
found_at p xs x e =
    let more = found_from p 0 xs x e in
    let start : 0 + more.0 ≡ more.0 = omega arith in
    record { place = more.0; is = position_from-zero p xs ∙ more.1 ∙ ap (λ (j : ℕ). Some j) start; there = more.2 }

-- a known site
unknown_none : (name : List ℕ) (site : Option SiteFacts) → unknown_one (Some name) site ≡ None → (f : SiteFacts) × (site ≡ Some f)
unknown_none name None e = absurd (cc)
unknown_none name (Some f) e = (f, refl)

-- the line names a site, which stands at this place
pub record Named (sites : List SiteFacts) (name : List ℕ) : Type 0 where
  pub facts : SiteFacts
  pub found : site_named sites name ≡ Some facts
  pub at : FoundAt (λ (site : SiteFacts). bytes_eq site.name name) sites facts

pub named : (sites : List SiteFacts) (name : List ℕ) → unknown_one (Some name) (named_facts sites (Some name)) ≡ None → Named sites name
named sites name e =
    let known = unknown_none name (named_facts sites (Some name)) e in
    record { facts = known.0; found = known.1; at = found_at (λ site. bytes_eq site.name name) sites known.0 known.1 }

-- what is known of a `site` line
pub record SiteMay (sites : List SiteFacts) (files : Bool) (disks blocks : ℕ) : Type 0 where
  pub few_sites : length sites < 8
  pub few_disks : disks ≤ 8
  pub few_blocks : blocks ≤ most_disk_blocks files
  pub some_disks : 1 ≤ disks
  pub some_blocks : 8 ≤ blocks

no_limit : (a b c : Bool) (x y z : No) → (if a then Some x else if b then Some y else if c then Some z else None) ≡ None → (a ≡ false) × (b ≡ false) × (c ≡ false)
no_limit true b c x y z e = absurd (cc)
no_limit false true c x y z e = absurd (cc)
no_limit false false true x y z e = absurd (cc)
no_limit false false false x y z e = (refl, refl, refl)

limit_none : (sites : ℕ) (files : Bool) (disks blocks : ℕ) → site_limit sites files disks blocks ≡ None → (sites < 8) × (disks ≤ 8) × (blocks ≤ most_disk_blocks files)
limit_none sites files disks blocks e =
    let tests = no_limit (nat_le 8 sites) (nat_lt 8 disks) (nat_lt (most_disk_blocks files) blocks) _ _ _ e in
    (le_false 8 sites tests.0, lt_false 8 disks tests.1, lt_false (most_disk_blocks files) blocks tests.2)

pub site_may : (sites : List SiteFacts) (files : Bool) (name : List ℕ) (disks blocks : ℕ) → line_refusal sites files (Site name disks blocks) ≡ None → SiteMay sites files disks blocks
unfolding over_limit wrong_size
site_may sites files name disks blocks e =
    let p = passes sites files (Site name disks blocks) e in
    let limits = limit_none (length sites) files disks blocks p.limit in
    let sizes : (disks == 0 || nat_lt blocks 8) ≡ false = when_none (disks == 0 || nat_lt blocks 8) _ p.size in
    let parts = or_parts (disks == 0) (nat_lt blocks 8) sizes in
    record { few_sites = limits.0; few_disks = limits.1; few_blocks = limits.2; some_disks = some_of disks parts.0; some_blocks = lt_false blocks 8 parts.1 }

raw_role_none : (site : SiteFacts) → raw_role (Some site) ≡ None → site.state ≡ Bare
raw_role_none site e = bare_is site.state (not_false (is_bare site.state) (when_none (not (is_bare site.state)) _ e))

-- what the shape of a raw set asks
pub raw_set : (disks blocks : ℕ) → is_raw_shape disks blocks ≡ true → (3 ≤ disks) × (8 ≤ blocks) × (LINK_PLACES * (disks - 2) * map_blocks blocks ≤ blocks)
unfolding is_raw_shape
raw_set disks blocks e =
    let all = and_parts (nat_le 3 disks && nat_le disks 32 && nat_le 8 blocks) (nat_le (8 * (disks - 2) * map_blocks blocks) blocks) e in
    let most = and_parts (nat_le 3 disks && nat_le disks 32) (nat_le 8 blocks) all.0 in
    let few = and_parts (nat_le 3 disks) (nat_le disks 32) most.0 in
    (le_true 3 disks few.0, le_true 8 blocks most.1, le_true (8 * (disks - 2) * map_blocks blocks) blocks all.1)

raw_size_none : (site : SiteFacts) → raw_size (Some site) ≡ None → (3 ≤ site.disks) × (8 ≤ site.blocks) × (LINK_PLACES * (site.disks - 2) * map_blocks site.blocks ≤ site.blocks)
raw_size_none site e = raw_set site.disks site.blocks (not_false (is_raw_shape site.disks site.blocks) (when_none (not (is_raw_shape site.disks site.blocks)) _ e))

disk_none : (disk : ℕ) (site : SiteFacts) → disk_unknown disk (Some site) ≡ None → disk < site.disks
disk_none disk site e = le_false site.disks disk (when_none (nat_le site.disks disk) _ e)

pub raw_may : (sites : List SiteFacts) (files : Bool) (name : List ℕ) → line_refusal sites files (Raw name) ≡ None → (site : Named sites name) × (site.facts.state ≡ Bare) × (3 ≤ site.facts.disks) × (8 ≤ site.facts.blocks)
    × (LINK_PLACES * (site.facts.disks - 2) * map_blocks site.facts.blocks ≤ site.facts.blocks)
unfolding first_name line_role wrong_size
raw_may sites files name e =
    let p = passes sites files (Raw name) e in
    let site = named sites name p.known in
    let role : raw_role (Some site.facts) ≡ None = subst (λ (o : Option SiteFacts). raw_role o ≡ None) site.found p.role in
    let size : raw_size (Some site.facts) ≡ None = subst (λ (o : Option SiteFacts). raw_size o ≡ None) site.found p.size in
    let sizes = raw_size_none site.facts size in
    (site, raw_role_none site.facts role, sizes.0, sizes.1, sizes.2)

pub disk_may : (sites : List SiteFacts) (files : Bool) (name : List ℕ) (disk : ℕ) (state : _) → line_refusal sites files (Disk name disk state) ≡ None → (site : Named sites name) × (disk < site.facts.disks)
unfolding first_name line_unknown
disk_may sites files name disk state e =
    let p = passes sites files (Disk name disk state) e in
    let site = named sites name p.known in
    let other : disk_unknown disk (Some site.facts) ≡ None = subst (λ (o : Option SiteFacts). disk_unknown disk o ≡ None) site.found p.other in
    (site, disk_none disk site.facts other)

not_halted : (disk : Option ℕ) → halted_disk disk ≡ None → disk ≡ None
not_halted None e = refl
not_halted (Some disk) e = absurd (cc)

pub running_by : (site : SiteFacts) (rvg : RvgFacts) → halted_one (Some site) ≡ None → rvg_of (Some site) ≡ site.rvg → site.rvg ≡ Some rvg → rvg.halted ≡ None
running_by site rvg e same is = not_halted rvg.halted (subst (λ (o : Option RvgFacts). halted_rvg o ≡ None) (same ∙ is) e)

pub status_may : (sites : List SiteFacts) (files : Bool) (name : List ℕ) → line_refusal sites files (Status name) ≡ None → Named sites name
unfolding first_name
status_may sites files name e = named sites name (passes sites files (Status name) e).known

not_off : (site : SiteFacts) → when (site_off (Some site)) NotUp ≡ None → site.state ≡ Up
not_off site e = up_is site.state (not_false (is_up site.state) (when_none (not (is_up site.state)) _ e))

pub crash_may : (sites : List SiteFacts) (files : Bool) (name : List ℕ) (pick : ℕ) → line_refusal sites files (Crash name pick) ≡ None → (site : Named sites name) × (site.facts.state ≡ Up)
unfolding first_name need_of
crash_may sites files name pick e =
    let p = passes sites files (Crash name pick) e in
    let site = named sites name p.known in
    (site, not_off site.facts (subst (λ (o : Option SiteFacts). when (site_off o) NotUp ≡ None) site.found p.up))

pub fuse_may : (sites : List SiteFacts) (files : Bool) (name : List ℕ) (calls pick : ℕ) → line_refusal sites files (Fuse name calls pick) ≡ None → (site : Named sites name) × (site.facts.state ≡ Up)
unfolding first_name need_of
fuse_may sites files name calls pick e =
    let p = passes sites files (Fuse name calls pick) e in
    let site = named sites name p.known in
    (site, not_off site.facts (subst (λ (o : Option SiteFacts). when (site_off o) NotUp ≡ None) site.found p.up))

pub recover_may : (sites : List SiteFacts) (files : Bool) (name : List ℕ) → line_refusal sites files (Recover name) ≡ None → Named sites name
unfolding first_name
recover_may sites files name e = named sites name (passes sites files (Recover name) e).known

-- what is known of a site whose log may be applied
pub record ApplyMay (sites : List SiteFacts) (name : List ℕ) : Type 0 where
  pub site : Named sites name
  pub up : site.facts.state ≡ Up
  pub running : (rvg : RvgFacts) → site.facts.rvg ≡ Some rvg → rvg.halted ≡ None

pub apply_may : (sites : List SiteFacts) (files : Bool) (name : List ℕ) (to : ℕ) → line_refusal sites files (Apply name to) ≡ None → ApplyMay sites name
unfolding first_name need_of halt_of
apply_may sites files name to e =
    let p = passes sites files (Apply name to) e in
    let site = named sites name p.known in
    let up = not_off site.facts (subst (λ (o : Option SiteFacts). when (site_off o) NotUp ≡ None) site.found p.up) in
    record {
      site = site;
      up = up;
      running = λ rvg is. running_by site.facts rvg (subst (λ (o : Option SiteFacts). halted_one o ≡ None) site.found p.running)
          (ap (λ (s : SiteState). if is_up s then site.facts.rvg else None) up) is;
    }
