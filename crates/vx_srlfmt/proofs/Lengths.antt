-- How many bytes the fields have.
use Rattle.std.proofs.Common.{◌≡◌, ◌≤◌, false, ℕ, ◌+◌, ◌*◌, ◌<◌, List, [], ◌∷◌, ◌++◌, length, take, get_or, refl, ap, sym, append_assoc, ◌∙◌, arith}
use Rattle.std.specs.Prelude.{flat_map}
use Rattle.std.proofs.lemmas.List.{length-append, take_more, take_all, append-nil}
use Rattle.std.proofs.lemmas.Grind.{flat_map-append}
use Rattle.vx_model.specs.declared.link.Prot.TheVariants as prot
use Rattle.vx_model.specs.declared.link.SyncMode.TheVariants as sync
use Rattle.vx_model.specs.declared.state.KeptLink.{KeptLink}
use Rattle.vx_model.specs.declared.state.KeptMode.TheVariants as mode
use Rattle.vx_wire.specs.Fields.{spelled}
use Rattle.vx_wire.specs.Numbers.{be_bytes}
use Rattle.vx_srlfmt.specs.Headers.{header_table, link_table, link_bytes, header_fields}
use Rattle.vx_srlfmt.specs.declared.header.Header.{Header}

-- what stands where there is no link
abbrev pub no_link : KeptLink
no_link = record { site = 0; attached = false; bunker = false; mode = mode.Log; sync = sync.Off; prot = prot.Off; stored = 0; start = 0 }

pub length-header_table : (h : Header) → length (spelled (header_table h)) ≡ 124
unfolding spelled be_bytes header_table
length-header_table h = refl

pub length-link_bytes : (l : KeptLink) → length (link_bytes l) ≡ 24
unfolding spelled be_bytes link_table
length-link_bytes l = refl

pub length-links : (ls : List KeptLink) → length (flat_map link_bytes ls) ≡ 24 * length ls
length-links [] = refl
length-links (l ∷ ls) = omega (arith, length-append (link_bytes l) (flat_map link_bytes ls), length-link_bytes l, length-links ls)

pub length-header_fields : (h : Header) → length (header_fields h) ≡ 124 + 24 * length h.state.links
unfolding header_fields
length-header_fields h = omega (arith, length-append (spelled (header_table h)) (flat_map link_bytes h.state.links), length-header_table h, length-links h.state.links)

-- the parts of one more item
pub flat_map-more : {X : Type 0} (f : X → List ℕ) (xs : List X) (i : ℕ) (d : X) → i < length xs → flat_map f (take (i + 1) xs) ≡ flat_map f (take i xs) ++ f (get_or xs i d)
flat_map-more f xs i d lt = rw (take_more xs i d lt, flat_map-append) (ap (λ (t : List ℕ). flat_map f (take i xs) ++ t) (append-nil (f (get_or xs i d))))

-- the fields up to some links
abbrev pub front_of : Header → List KeptLink → List ℕ
front_of h ls = spelled (header_table h) ++ flat_map link_bytes ls

pub length-front_of : (h : Header) (ls : List KeptLink) → length (front_of h ls) ≡ 124 + 24 * length ls
length-front_of h ls = omega (arith, length-append (spelled (header_table h)) (flat_map link_bytes ls), length-header_table h, length-links ls)

pub front_of-more : (h : Header) (ls : List KeptLink) (i : ℕ) (d : KeptLink) → i < length ls → front_of h (take (i + 1) ls) ≡ front_of h (take i ls) ++ link_bytes (get_or ls i d)
front_of-more h ls i d lt =
    ap (λ (t : List ℕ). spelled (header_table h) ++ t) (flat_map-more link_bytes ls i d lt)
    ∙ sym (append_assoc (spelled (header_table h)) (flat_map link_bytes (take i ls)) (link_bytes (get_or ls i d)))

pub front_of-all : (h : Header) (i : ℕ) → length h.state.links ≤ i → front_of h (take i h.state.links) ≡ header_fields h
unfolding header_fields
front_of-all h i le = ap (front_of h) (take_all i h.state.links le)
