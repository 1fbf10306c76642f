-- All before the first wrong field is right, for each row of the table.
use Rattle.std.proofs.Common.{◌≡◌, ℕ, ◌-◌, ◌≤◌, Bool, true, false, List, ◌++◌, length, take, Option, Some, None, Ok, Err, refl, subst, arith}
use Rattle.std.specs.Prelude.{is_some, ◌==◌}
use Rattle.std.proofs.lemmas.Bool.{eqb-true}
use Rattle.vx_model.specs.declared.site.PlexState.TheVariants.{Active}
use Rattle.vx_wire.specs.Numbers.{be_bytes, AreBytes}
use Rattle.vx_config.specs.Forms.{Reading, Form, number, within, flag, name, pair, counted, optional, where_flag}
use Rattle.vx_config.specs.Table.{disk, subdisk, log, state_code, state_of, state, plex, preferred_where, most_preferred, preferred, ways, volume, units, greatest, format_1, behind_version, config}
use Rattle.vx_config.specs.declared.config.Config.{Config}
use Rattle.vx_config.specs.declared.entry.PlexEntry.{PlexEntry}
use Rattle.vx_config.proofs.FormLaws.{bind_err, test_err, IsForm, number-IsForm, within-IsForm, flag-IsForm, name-IsForm, pair-IsForm}
use Rattle.vx_config.proofs.PartLaws.{counted-IsForm, optional-IsForm, where_flag-IsForm}
use Rattle.vx_config.proofs.TableLaws.{flags, behind_flags, disk-IsForm, subdisk-IsForm, log-IsForm, state-IsForm, plex-IsForm, preferred-IsForm, ways-IsForm, flags-IsForm, behind_flags-IsForm, ways-tell, volume-IsForm, units-IsForm, format_1-IsForm}
use Rattle.vx_config.proofs.BeforeLaws.{none-before, behind-take, Before, IsFull, IsField, field-full, within-IsField, number-IsField, number-IsFull, within-IsFull, coded-IsFull, flag-IsFull, name-IsFull, pair-IsFull, made_of-IsFull, keyed-IsFull, counted-IsFull, optional-IsFull, where_flag-IsFull}

n1 : IsFull (number 1)
n1 = number-IsFull 1 (omega arith)

n4 : IsFull (number 4)
n4 = number-IsFull 4 (omega arith)

n8 : IsFull (number 8)
n8 = number-IsFull 8 (omega arith)

two : IsFull (pair (number 8) (number 8))
two = pair-IsFull (number 8) (number 8) (number-IsForm 8) (number-IsForm 8) n8 n8

run-IsForm : IsForm (pair (number 1) (pair (number 8) (number 8)))
run-IsForm = pair-IsForm (number 1) (pair (number 8) (number 8)) (number-IsForm 1) (pair-IsForm (number 8) (number 8) (number-IsForm 8) (number-IsForm 8))

run-IsFull : IsFull (pair (number 1) (pair (number 8) (number 8)))
run-IsFull = pair-IsFull (number 1) (pair (number 8) (number 8)) (number-IsForm 1) (pair-IsForm (number 8) (number 8) (number-IsForm 8) (number-IsForm 8)) n1 two

disk-IsFull : IsFull disk
unfolding disk
disk-IsFull = made_of-IsFull _ _ _ (λ a. refl) (pair-IsFull (number 8) flag (number-IsForm 8) flag-IsForm n8 flag-IsFull)

subdisk-IsFull : IsFull subdisk
unfolding subdisk
subdisk-IsFull = made_of-IsFull _ _ _ (λ a. refl) run-IsFull

log-IsFull : IsFull log
unfolding log
log-IsFull = made_of-IsFull _ _ _ (λ a. refl) (pair-IsFull flag (pair (number 1) (pair (number 8) (number 8))) flag-IsForm run-IsForm flag-IsFull run-IsFull)

state-IsFull : IsFull state
unfolding state
state-IsFull = coded-IsFull state_code state_of Active

subdisks-IsForm : IsForm (counted 0 255 subdisk)
subdisks-IsForm = counted-IsForm 0 255 subdisk (omega arith) subdisk-IsForm

subdisks-IsFull : IsFull (counted 0 255 subdisk)
subdisks-IsFull = counted-IsFull 0 255 subdisk (omega arith) (omega arith) subdisk-IsForm subdisk-IsFull

plex-IsFull : IsFull plex
unfolding plex
plex-IsFull = made_of-IsFull _ _ _ (λ a. refl)
    (pair-IsFull state (pair flag (counted 0 255 subdisk)) state-IsForm (pair-IsForm flag (counted 0 255 subdisk) flag-IsForm subdisks-IsForm) state-IsFull
    (pair-IsFull flag (counted 0 255 subdisk) flag-IsForm subdisks-IsForm flag-IsFull subdisks-IsFull))

preferred-IsField : (policy : Bool) → IsField (preferred policy)
preferred-IsField policy = record {
  starts = λ bytes left e.
      let join : ℕ × List ℕ → Reading (Option ℕ) = λ p. Ok (preferred_where policy p.0, p.1) in
      bind_err ((within 1 0 (most_preferred policy)).read bytes) join left (left ≡ length bytes) e
      (λ first. (within-IsField 1 0 (most_preferred policy)).starts bytes left first) (λ p pe none. absurd cc);
}

preferred-IsFull : (policy : Bool) → IsFull (preferred policy)
preferred-IsFull false = field-full (preferred false) None (refl, (omega arith, omega arith, omega arith)) (preferred-IsField false)
preferred-IsFull true = field-full (preferred true) (Some 0) (refl, (omega arith, omega arith, omega arith)) (preferred-IsField true)

logs-IsForm : (k : Bool × (Bool × Bool)) → IsForm (pair (where_flag log k.0) (where_flag log k.1.0))
logs-IsForm k = pair-IsForm (where_flag log k.0) (where_flag log k.1.0) (where_flag-IsForm log k.0 log-IsForm) (where_flag-IsForm log k.1.0 log-IsForm)

logs-IsFull : (k : Bool × (Bool × Bool)) → IsFull (pair (where_flag log k.0) (where_flag log k.1.0))
logs-IsFull k = pair-IsFull (where_flag log k.0) (where_flag log k.1.0) (where_flag-IsForm log k.0 log-IsForm) (where_flag-IsForm log k.1.0 log-IsForm)
    (where_flag-IsFull log k.0 log-IsForm log-IsFull) (where_flag-IsFull log k.1.0 log-IsForm log-IsFull)

ways-IsFull : IsFull ways
unfolding ways
ways-IsFull = keyed-IsFull (λ w. (is_some w.1.0, (is_some w.1.1, is_some w.0))) flags behind_flags flags-IsForm behind_flags-IsForm ways-tell
    (pair-IsFull flag (pair flag flag) flag-IsForm (pair-IsForm flag flag flag-IsForm flag-IsForm) flag-IsFull (pair-IsFull flag flag flag-IsForm flag-IsForm flag-IsFull flag-IsFull))
    (λ k. pair-IsFull (preferred k.1.1) (pair (where_flag log k.0) (where_flag log k.1.0)) (preferred-IsForm k.1.1) (logs-IsForm k) (preferred-IsFull k.1.1) (logs-IsFull k))

abbrev plexes : Form (List PlexEntry)
plexes = counted 0 255 plex

plexes-IsForm : IsForm plexes
plexes-IsForm = counted-IsForm 0 255 plex (omega arith) plex-IsForm

plexes-IsFull : IsFull plexes
plexes-IsFull = counted-IsFull 0 255 plex (omega arith) (omega arith) plex-IsForm plex-IsFull

volume-IsFull : IsFull volume
unfolding volume
volume-IsFull = made_of-IsFull _ _ _ (λ a. refl)
    (pair-IsFull name (pair (number 8) (pair (number 1) (pair (number 4) (pair ways plexes)))) name-IsForm form_8 name-IsFull
    (pair-IsFull (number 8) (pair (number 1) (pair (number 4) (pair ways plexes))) (number-IsForm 8) form_1 n8
    (pair-IsFull (number 1) (pair (number 4) (pair ways plexes)) (number-IsForm 1) form_4 n1
    (pair-IsFull (number 4) (pair ways plexes) (number-IsForm 4) last n4 (pair-IsFull ways plexes ways-IsForm plexes-IsForm ways-IsFull plexes-IsFull))))) where
      last : IsForm (pair ways plexes)
      last = pair-IsForm ways plexes ways-IsForm plexes-IsForm

      form_4 : IsForm (pair (number 4) (pair ways plexes))
      form_4 = pair-IsForm (number 4) (pair ways plexes) (number-IsForm 4) last

      form_1 : IsForm (pair (number 1) (pair (number 4) (pair ways plexes)))
      form_1 = pair-IsForm (number 1) (pair (number 4) (pair ways plexes)) (number-IsForm 1) form_4

      form_8 : IsForm (pair (number 8) (pair (number 1) (pair (number 4) (pair ways plexes))))
      form_8 = pair-IsForm (number 8) (pair (number 1) (pair (number 4) (pair ways plexes))) (number-IsForm 8) form_1

units-IsFull : IsFull units
unfolding units
units-IsFull = made_of-IsFull _ _ _ (λ a. refl)
    (pair-IsFull (number 1) (pair (number 1) numbers) (number-IsForm 1) (pair-IsForm (number 1) numbers (number-IsForm 1) form) n1
    (pair-IsFull (number 1) numbers (number-IsForm 1) form n1 (counted-IsFull 0 30 (number 1) (omega arith) (omega arith) (number-IsForm 1) n1))) where
      numbers : Form (List ℕ)
      numbers = counted 0 30 (number 1)

      form : IsForm numbers
      form = counted-IsForm 0 30 (number 1) (omega arith) (number-IsForm 1)

format_1-IsFull : IsFull format_1
unfolding format_1
format_1-IsFull = made_of-IsFull _ _ _ (λ a. refl)
    (pair-IsFull (within 8 0 greatest) _ (within-IsForm 8 0 greatest) form_4 (within-IsFull 8 0 greatest (omega arith) (omega arith))
    (pair-IsFull (number 4) _ (number-IsForm 4) form_disks n4
    (pair-IsFull (counted 1 8 disk) _ disks_form form_volumes (counted-IsFull 1 8 disk (omega arith) (omega arith) disk-IsForm disk-IsFull)
    (pair-IsFull (counted 0 32 volume) (optional units) volumes_form (optional-IsForm units units-IsForm)
    (counted-IsFull 0 32 volume (omega arith) (omega arith) volume-IsForm volume-IsFull) (optional-IsFull units units-IsForm units-IsFull))))) where
      disks_form : IsForm (counted 1 8 disk)
      disks_form = counted-IsForm 1 8 disk (omega arith) disk-IsForm

      volumes_form : IsForm (counted 0 32 volume)
      volumes_form = counted-IsForm 0 32 volume (omega arith) volume-IsForm

      form_volumes : IsForm (pair (counted 0 32 volume) (optional units))
      form_volumes = pair-IsForm (counted 0 32 volume) (optional units) volumes_form (optional-IsForm units units-IsForm)

      form_disks : IsForm (pair (counted 1 8 disk) (pair (counted 0 32 volume) (optional units)))
      form_disks = pair-IsForm (counted 1 8 disk) (pair (counted 0 32 volume) (optional units)) disks_form form_volumes

      form_4 : IsForm (pair (number 4) (pair (counted 1 8 disk) (pair (counted 0 32 volume) (optional units))))
      form_4 = pair-IsForm (number 4) (pair (counted 1 8 disk) (pair (counted 0 32 volume) (optional units))) (number-IsForm 4) form_disks

-- a configuration is spelled as the bytes are, up to the first wrong field
pub config-before : (bytes : List ℕ) (left : ℕ) → AreBytes bytes → config.read bytes ≡ Err left → Before config bytes left
unfolding config
config-before bytes left h e =
    let more : ℕ × List ℕ → Reading Config = λ v. behind_version v.0 (length bytes) v.1 in
    let spelling : List ℕ = be_bytes 4 1 ++ format_1.spell format_1-IsFull.one in
    bind_err ((number 4).read bytes) more left (Before config bytes left) e
    (λ wrong.
    let all : left ≡ length bytes = (number-IsField 4).starts bytes left wrong in
    record { value = format_1-IsFull.one; fits = format_1-IsFull.fits; same = none-before (length bytes - left) spelling bytes (omega arith) })
    (λ v ve second.
    test_err (v.0 == 1) (length bytes) left (format_1.read v.1) (Before config bytes left) second
    (λ k. record { value = format_1-IsFull.one; fits = format_1-IsFull.fits; same = none-before (length bytes - left) spelling bytes (omega arith) })
    (λ t wrong.
    let taken = (number-IsForm 4).takes bytes v h ve in
    let b : Before format_1 v.1 left = format_1-IsFull.before v.1 left taken.0.behind wrong in
    let inside : left ≤ length v.1 = format_1-IsForm.stops v.1 left taken.0.behind wrong in
    let P : ℕ → Type 0 = λ n. take (length bytes - left) (be_bytes 4 n ++ format_1.spell b.value) ≡ take (length bytes - left) bytes in
    let whole : P v.0 = behind-take bytes (be_bytes 4 v.0) v.1 (format_1.spell b.value) left taken.0.parts inside b.same in
    record { value = b.value; fits = b.fits; same = subst P (eqb-true v.0 1 t) whole }))
