-- Why a start is refused.
use Rattle.std.proofs.Common.{◌≡◌, ◌⊎◌, inl, inr, Bool, IsTrue, ℕ, ◌+◌, ◌≤◌, List, sym, subst}
use Rattle.std.proofs.lemmas.List.Elements.{All-weaker}
use Rattle.vx_disk.specs.Shelf.{Meaning, Lawful, Nothing, Goes}
use Rattle.vx_model.specs.declared.no.No.{No}
use Rattle.vx_model.specs.declared.no.No.TheVariants.{Damaged, NoConfig, Limit, Device, Down}
use Rattle.vx_ringlog.specs.Chain.{block as block_of}
use Rattle.vx_ringlog.specs.Records.{Record}
use Rattle.vx_disk.proofs.Runs.{then_nothing}
use Rattle.vx_ringio.specs.Reading.{SeesFront}
use Rattle.vx_ringio.proofs.Following.{leaves_read}
use Rattle.vx_ringio.proofs.Seeing.{gave_before, sees_front_before}
use Rattle.vx_srlfmt.specs.declared.header.Header.{Header}
use Rattle.vx_srlfmt.specs.declared.record.Seen.TheVariants as seen
use Rattle.vx_srl.specs.Damages.{RecordDamaged, SeesFronts}
use Rattle.vx_srl.specs.declared.kept.Kept.{Kept}
use Rattle.vx_srl.specs.Scans.{Scans, ScanCause}
use Rattle.vx_srl.specs.Standings.{NoneCounts, StandingCause, TakeOverCause}
use Rattle.vx_srl.specs.Starts.{LeavesLog, NoLogLeft, ReadsAtLimit, LogStartCause}
use Rattle.vx_srl.specs.Views.{most_number}
use Rattle.vx_srl.proofs.ScanCauses.{rose_since}

none_left : (unit ring : ℕ) (old : Meaning) → Lawful old → NoneCounts unit ring old → NoLogLeft unit ring old
none_left unit ring old lawful none h rs left = none left.kinds h (leaves_read unit ring left.kinds old lawful left.leaves) left.recovers.starts.counts

pub no_header_cause : (unit ring : ℕ) (old new : Meaning) → Lawful old → (why : No) → StandingCause unit ring old new why → LogStartCause unit ring old new why
no_header_cause unit ring old new lawful NoConfig cause = (cause.0, none_left unit ring old lawful cause.1)
no_header_cause unit ring old new lawful (Damaged u block stored computed) cause = (cause.0, cause.1, (λ tells. inl (cause.2 tells)), none_left unit ring old lawful cause.3)
no_header_cause unit ring old new lawful (Limit what most) cause = absurd cause
no_header_cause unit ring old new lawful other cause = cause

-- a damaged block that was read behind other reads
damaged_before : (unit ring block : ℕ) (stored computed : List ℕ) (old mid : Meaning) → Goes Nothing old mid → (IsTrue mid.down → ⊥) → RecordDamaged unit ring block stored computed mid → RecordDamaged unit ring block stored computed old
damaged_before unit ring block stored computed old mid goes up (inl front) = inl (sees_front_before unit block old mid (seen.Damaged stored computed) goes up front)
damaged_before unit ring block stored computed old mid goes up (inr body) = inr (
  record {
    place = body.0.place;
    head = body.0.head;
    front = sees_front_before unit (block_of ring body.0.place) old mid (seen.Record body.0.head) goes up body.0.front;
    at = body.0.at;
    stored_is = body.0.stored_is;
  },
  record { body = body.1.body; count = body.1.count; gave = gave_before unit ring old mid (body.0.place + 1) body.1.body goes up body.1.gave; computed_is = body.1.computed_is },
)

pub fronts_before : (unit ring : ℕ) (records : List Kept) (old mid : Meaning) → Goes Nothing old mid → (IsTrue mid.down → ⊥) → (IsTrue mid.tells → SeesFronts unit ring records mid) → IsTrue old.tells → SeesFronts unit ring records old
fronts_before unit ring records old mid goes up fronts tells =
    All-weaker (λ (k : Kept). SeesFront unit (block_of ring k.place) mid (seen.Record k.head)) (λ (k : Kept). SeesFront unit (block_of ring k.place) old (seen.Record k.head))
    (λ k sees. sees_front_before unit (block_of ring k.place) old mid (seen.Record k.head) goes up sees) records (fronts (subst (λ (t : Bool). IsTrue t) (sym goes.tells) tells))

pub scan_cause : (unit ring : ℕ) (h : Header) (old mid new : Meaning) → Goes Nothing old mid → (IsTrue mid.down → ⊥) → ((g : Header) (rs : List Record) → LeavesLog unit ring g rs old → Scans unit ring h rs mid)
    → (why : No) → ScanCause unit ring h mid new why → LogStartCause unit ring old new why
scan_cause unit ring h old mid new goes up scans (Damaged u block stored computed) cause = (
  cause.0,
  cause.1,
  (λ tells. inr (damaged_before unit ring block stored computed old mid goes up (cause.2 (subst (λ (t : Bool). IsTrue t) (sym goes.tells) tells)))),
  (λ g rs left. cause.3 rs (scans g rs left)),
)
scan_cause unit ring h old mid new goes up scans (Device disk) cause = rose_since (old.disk_faults disk) (mid.disk_faults disk) (new.disk_faults disk) (goes.disk_faults disk) cause
scan_cause unit ring h old mid new goes up scans Down cause = cause
scan_cause unit ring h old mid new goes up scans other cause = absurd cause

pub take_over_cause : (unit ring : ℕ) (h : Header) (old now new : Meaning) → Goes Nothing old now → ((g : Header) (rs : List Record) → LeavesLog unit ring g rs old → h ≡ g)
    → (why : No) → TakeOverCause h now new why → LogStartCause unit ring old new why
take_over_cause unit ring h old now new goes same (Limit what most) cause =
    (cause.0, cause.1, (λ g rs left. subst (λ (x : Header). (most_number ≤ x.stamp + 2) ⊎ (most_number ≤ x.incarnation)) (same g rs left) cause.2))
take_over_cause unit ring h old now new goes same (Device disk) cause = rose_since (old.disk_faults disk) (now.disk_faults disk) (new.disk_faults disk) (goes.disk_faults disk) cause
take_over_cause unit ring h old now new goes same Down cause = cause
take_over_cause unit ring h old now new goes same other cause = absurd cause

pub limit_since : (old mid new : Meaning) → Goes Nothing old mid → (why : No) → ReadsAtLimit mid new why → ReadsAtLimit old new why
limit_since old mid new goes (Limit what most) limit = then_nothing Nothing old mid new goes limit
limit_since old mid new goes other limit = tt
