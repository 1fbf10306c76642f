-- Tables written field by field.
use Rattle.std.proofs.Common.{◌≡◌, ℕ, ◌+◌, ◌<◌, ◌≤◌, List, ◌++◌, length, take, drop, get_or, sym, ap, ◌∙◌, arith}
use Rattle.std.specs.Prelude.{flat_map}
use Rattle.std.proofs.lemmas.List.{take_more, take-append-drop, length-append, append-nil}
use Rattle.std.proofs.lemmas.List.Concat.{flat_map-append}
use Rattle.vx_wire.specs.Fields.{field_bytes, spelled}
use Rattle.vx_wire.specs.declared.field.Field.{Field}

-- one more field
pub spelled-more : (fields : List Field) (i : ℕ) (d : Field) → i < length fields → spelled (take (i + 1) fields) ≡ spelled (take i fields) ++ field_bytes (get_or fields i d)
unfolding spelled
spelled-more fields i d lt = rw (take_more fields i d lt, flat_map-append) (ap (λ (t : List ℕ). flat_map field_bytes (take i fields) ++ t) (append-nil (field_bytes (get_or fields i d))))

-- the first fields with the next are no longer than the table
pub length-spelled_next : (fields : List Field) (i : ℕ) (d : Field) → i < length fields → length (spelled (take i fields)) + length (field_bytes (get_or fields i d)) ≤ length (spelled fields)
unfolding spelled
length-spelled_next fields i d lt =
    let whole : flat_map field_bytes (take (i + 1) fields) ++ flat_map field_bytes (drop (i + 1) fields) ≡ flat_map field_bytes fields =
    sym (flat_map-append field_bytes (take (i + 1) fields) (drop (i + 1) fields)) ∙ ap (flat_map field_bytes) (take-append-drop (i + 1) fields) in
    omega (arith, ap length whole, length-append (flat_map field_bytes (take (i + 1) fields)) (flat_map field_bytes (drop (i + 1) fields)), ap length (spelled-more fields i d lt), length-append (flat_map field_bytes (take i fields)) (field_bytes (get_or fields i d)))
