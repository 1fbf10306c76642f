-- What is known of a line that reads or writes blocks, and that is not refused before it works.
use Rattle.std.proofs.Common.{◌≡◌, ◌∙◌, ◌+◌, ◌≤◌, ℕ, List, ap, subst, refl, Bool, false}
use Rattle.std.proofs.lemmas.Bool.{or_parts}
use Rattle.std.specs.Prelude.{Option, Some, None, ◌&&◌, ◌||◌, ◌==◌, nat_lt, if◌then◌else◌}
use Rattle.std.specs.List.{find}
use Rattle.std.specs.Str.{bytes_eq}
use Rattle.vx_model.specs.declared.site.SiteState.{SiteState}
use Rattle.vx_model.specs.declared.site.SiteState.TheVariants.{Bare, Up, Deported, Down}
use Rattle.vx_script.specs.declared.line.ScriptLine.TheVariants.{Write, Put, Read, Show}
use Rattle.vx_order.specs.declared.facts.SiteFacts.{SiteFacts}
use Rattle.vx_order.specs.declared.facts.VolumeFacts.{VolumeFacts}
use Rattle.vx_order.specs.declared.facts.RvgFacts.{RvgFacts}
use Rattle.vx_order.specs.declared.facts.VolumeKind.{VolumeKind}
use Rattle.vx_order.specs.declared.facts.VolumeKind.TheVariants.{Data}
use Rattle.vx_order.specs.declared.span.Span.{Span}
use Rattle.vx_order.specs.declared.span.Way.{Way}
use Rattle.vx_order.specs.declared.span.Way.TheVariants.{Writes, Reads, Shows}
use Rattle.vx_order.specs.Order.{line_refusal}
use Rattle.vx_order.specs.Subject.{first_name, halt_of}
use Rattle.vx_order.specs.Spans.{span_of}
use Rattle.vx_order.specs.Sites.{site_named, volume_of, rvg_of, halted_one}
use Rattle.vx_model.specs.Sites.{is_up}
use Rattle.vx_order.specs.Calls.{span_unknown, span_size, span_range, call_unknown, call_size, call_range, outgrows, is_data, is_write}
use Rattle.vx_events.proofs.Refused.{running_by, passes, when_none, lt_false, some_of, FoundAt, found_at, Named, named}

-- what is known of a read or write of blocks
pub record CallMay (sites : List SiteFacts) (name volume : List ℕ) (start count : ℕ) : Type 0 where
  pub site : Named sites name
  pub up : site.facts.state ≡ Up
  pub running : (rvg : RvgFacts) → site.facts.rvg ≡ Some rvg → rvg.halted ≡ None
  pub found : VolumeFacts
  pub finds : find (λ (v : VolumeFacts). bytes_eq v.name volume) site.facts.volumes ≡ Some found
  pub at : FoundAt (λ (v : VolumeFacts). bytes_eq v.name volume) site.facts.volumes found
  pub some : 1 ≤ count
  pub few : count ≤ 16
  pub range : start + count ≤ found.blocks

-- what is known of a write beside
pub record WriteMay (sites : List SiteFacts) (name volume : List ℕ) (start count : ℕ) : Type 0 where
  pub call : CallMay sites name volume start count
  pub fits : (rvg : RvgFacts) → call.site.facts.rvg ≡ Some rvg → call.found.kind ≡ Data → count + 1 ≤ rvg.ring

-- only an up site has volumes
found_up : (state : SiteState) (found : Option VolumeFacts) (name : List ℕ) → call_unknown (if is_up state then found else None) name ≡ None
    → (state ≡ Up) × (v : VolumeFacts) × (found ≡ Some v)
found_up Up None name e = absurd (cc)
found_up Up (Some v) name e = (refl, v, refl)
found_up Bare found name e = absurd (cc)
found_up Deported found name e = absurd (cc)
found_up Down found name e = absurd (cc)

-- what the tests of a run of blocks say of its volume
pub record Calling (site : SiteFacts) (span : Span) : Type 0 where
  pub up : site.state ≡ Up
  pub rvg_is : rvg_of (Some site) ≡ site.rvg
  pub volume : VolumeFacts
  pub volume_is : volume_of (Some site) span.volume ≡ Some volume
  pub found : find (λ (v : VolumeFacts). bytes_eq v.name span.volume) site.volumes ≡ Some volume

pub calling : (site : SiteFacts) (span : Span) → span_unknown (Some site) (Some span) ≡ None → Calling site span
calling site span e =
    let found : Option VolumeFacts = find (λ (v : VolumeFacts). bytes_eq v.name span.volume) site.volumes in
    let is = found_up site.state found span.volume e in
    record {
      up = is.0;
      rvg_is = ap (λ (s : SiteState). if is_up s then site.rvg else None) is.0;
      volume = is.1;
      volume_is = ap (λ (s : SiteState). if is_up s then found else None) is.0 ∙ is.2;
      found = is.2;
    }

-- what the test of a run's size says
pub record Sized (rvg : Option RvgFacts) (volume : Option VolumeFacts) (span : Span) : Type 0 where
  pub some : 1 ≤ span.count
  pub few : span.count ≤ 16
  pub fits : (is_write span.way && outgrows rvg volume span.count) ≡ false

pub sized : (rvg : Option RvgFacts) (volume : Option VolumeFacts) (span : Span) → call_size rvg volume span ≡ None → Sized rvg volume span
sized rvg volume span e =
    let all = when_none (span.count == 0 || nat_lt 16 span.count || (is_write span.way && outgrows rvg volume span.count)) _ e in
    let parts = or_parts (span.count == 0 || nat_lt 16 span.count) (is_write span.way && outgrows rvg volume span.count) all in
    let counts = or_parts (span.count == 0) (nat_lt 16 span.count) parts.0 in
    record { some = some_of span.count counts.0; few = lt_false 16 span.count counts.1; fits = parts.1 }

fits_by : (rvg : RvgFacts) (volume : VolumeFacts) (count : ℕ) → outgrows (Some rvg) (Some volume) count ≡ false → volume.kind ≡ Data → count + 1 ≤ rvg.ring
fits_by rvg volume count e is =
    lt_false rvg.ring (count + 1) (subst (λ (kind : VolumeKind). (is_data kind && nat_lt rvg.ring (count + 1)) ≡ false) is e)

range_by : (volume : VolumeFacts) (span : Span) → call_range (Some volume) span ≡ None → span.start + span.count ≤ volume.blocks
range_by volume span e = lt_false volume.blocks (span.start + span.count) (when_none (nat_lt volume.blocks (span.start + span.count)) _ e)

-- the tests of a line with a run of blocks
record Run (sites : List SiteFacts) (name : List ℕ) (span : Span) : Type 0 where
  site : Named sites name
  running : halted_one (Some site.facts) ≡ None
  volume : span_unknown (Some site.facts) (Some span) ≡ None
  call_size : span_size (Some site.facts) (Some span) ≡ None
  range : span_range (Some site.facts) (Some span) ≡ None

run_of : (sites : List SiteFacts) (name : List ℕ) (span : Span) (site : Named sites name) → halted_one (site_named sites name) ≡ None → span_unknown (site_named sites name) (Some span) ≡ None
    → span_size (site_named sites name) (Some span) ≡ None → span_range (site_named sites name) (Some span) ≡ None → Run sites name span
run_of sites name span site running volume size range = record {
  site = site;
  running = subst (λ (o : Option SiteFacts). halted_one o ≡ None) site.found running;
  volume = subst (λ (o : Option SiteFacts). span_unknown o (Some span) ≡ None) site.found volume;
  call_size = subst (λ (o : Option SiteFacts). span_size o (Some span) ≡ None) site.found size;
  range = subst (λ (o : Option SiteFacts). span_range o (Some span) ≡ None) site.found range;
}

abbrev call_by : (sites : List SiteFacts) (name : List ℕ) (span : Span) (run : Run sites name span) → Calling run.site.facts span → CallMay sites name span.volume span.start span.count
call_by sites name span run c = record {
  site = run.site;
  up = c.up;
  running = λ rvg is. running_by run.site.facts rvg run.running c.rvg_is is;
  found = c.volume;
  finds = c.found;
  at = found_at (λ (v : VolumeFacts). bytes_eq v.name span.volume) run.site.facts.volumes c.volume c.found;
  some = (sized _ _ span run.call_size).some;
  few = (sized _ _ span run.call_size).few;
  range = range_by c.volume span (subst (λ (o : Option VolumeFacts). call_range o span ≡ None) c.volume_is run.range);
}

call_of : (sites : List SiteFacts) (name : List ℕ) (span : Span) → Run sites name span → CallMay sites name span.volume span.start span.count
call_of sites name span run = call_by sites name span run (calling run.site.facts span run.volume)

fits_of : (site : SiteFacts) (span : Span) (c : Calling site span) → span_size (Some site) (Some span) ≡ None → span.way ≡ Writes
    → (rvg : RvgFacts) → site.rvg ≡ Some rvg → c.volume.kind ≡ Data → span.count + 1 ≤ rvg.ring
fits_of site span c size way rvg is kind =
    let fits = (sized (rvg_of (Some site)) (volume_of (Some site) span.volume) span size).fits in
    let writes : outgrows (rvg_of (Some site)) (volume_of (Some site) span.volume) span.count ≡ false =
    subst (λ (w : Way). (is_write w && outgrows (rvg_of (Some site)) (volume_of (Some site) span.volume) span.count) ≡ false) way fits in
    let led : outgrows (Some rvg) (volume_of (Some site) span.volume) span.count ≡ false =
    subst (λ (o : Option RvgFacts). outgrows o (volume_of (Some site) span.volume) span.count ≡ false) (c.rvg_is ∙ is) writes in
    fits_by rvg c.volume span.count (subst (λ (o : Option VolumeFacts). outgrows (Some rvg) o span.count ≡ false) c.volume_is led) kind

write_of : (sites : List SiteFacts) (name : List ℕ) (span : Span) → span.way ≡ Writes → Run sites name span → WriteMay sites name span.volume span.start span.count
write_of sites name span way run =
    let c = calling run.site.facts span run.volume in
    record { call = call_by sites name span run c; fits = λ rvg is kind. fits_of run.site.facts span c run.call_size way rvg is kind }

pub write_may : (sites : List SiteFacts) (files : Bool) (name volume : List ℕ) (start count fill : ℕ) → line_refusal sites files (Write name volume start count fill) ≡ None → WriteMay sites name volume start count
unfolding first_name span_of halt_of
write_may sites files name volume start count fill e =
    let p = passes sites files (Write name volume start count fill) e in
    let span : Span = record { volume = volume; start = start; count = count; way = Writes } in
    write_of sites name span refl (run_of sites name span (named sites name p.known) p.running p.volume p.call_size p.range)

pub put_may : (sites : List SiteFacts) (files : Bool) (name volume : List ℕ) (start : ℕ) (bytes : List ℕ) → line_refusal sites files (Put name volume start bytes) ≡ None → WriteMay sites name volume start 1
unfolding first_name span_of halt_of
put_may sites files name volume start bytes e =
    let p = passes sites files (Put name volume start bytes) e in
    let span : Span = record { volume = volume; start = start; count = 1; way = Writes } in
    write_of sites name span refl (run_of sites name span (named sites name p.known) p.running p.volume p.call_size p.range)

pub read_may : (sites : List SiteFacts) (files : Bool) (name volume : List ℕ) (start count : ℕ) → line_refusal sites files (Read name volume start count) ≡ None → CallMay sites name volume start count
unfolding first_name span_of halt_of
read_may sites files name volume start count e =
    let p = passes sites files (Read name volume start count) e in
    let span : Span = record { volume = volume; start = start; count = count; way = Reads } in
    call_of sites name span (run_of sites name span (named sites name p.known) p.running p.volume p.call_size p.range)

pub show_may : (sites : List SiteFacts) (files : Bool) (name volume : List ℕ) (start count : ℕ) → line_refusal sites files (Show name volume start count) ≡ None → CallMay sites name volume start count
unfolding first_name span_of halt_of
show_may sites files name volume start count e =
    let p = passes sites files (Show name volume start count) e in
    let span : Span = record { volume = volume; start = start; count = count; way = Shows } in
    call_of sites name span (run_of sites name span (named sites name p.known) p.running p.volume p.call_size p.range)
