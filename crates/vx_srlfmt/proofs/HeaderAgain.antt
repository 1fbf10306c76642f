-- A header that is spelled is read again.
use Rattle.std.proofs.Common.{◌≡◌, ◌≤◌, ℕ, zero, suc, ◌+◌, ◌-◌, ◌^◌, ◌<◌, min, List, [], ◌∷◌, ◌++◌, length, take, refl, ap, sym, append_assoc, ◌∙◌, arith, add-zero}
use Rattle.std.specs.Prelude.{flat_map}
use Rattle.std.specs.List.{AllByRecursion}
use Rattle.std.proofs.lemmas.List.Elements.{recursion_from_All}
use Rattle.std.proofs.lemmas.List.{length-append}
use Rattle.vx_model.specs.declared.state.KeptLink.{KeptLink}
use Rattle.vx_model.specs.declared.state.State.{State}
use Rattle.vx_wire.specs.Fields.{spelled, zero_bytes}
use Rattle.vx_wire.specs.Seals.{sealed, filled, digest_of}
use Rattle.vx_wire.specs.Numbers.{be_bytes, number_at}
use Rattle.vx_wire.proofs.NumberLemmas.{reads_back}
use Rattle.vx_srlfmt.proofs.Numbers.{number_at-behind}
use Rattle.vx_srlfmt.specs.Codes.{role_code, mark_code, phase_code, mode_code, sync_code, prot_code, flags_code, role_of}
use Rattle.vx_srlfmt.specs.HeaderReading.{link_at, links_at, state_in, header_in}
use Rattle.vx_srlfmt.specs.Headers.{header_magic, header_table, link_table, link_bytes, header_fields, header_block, Agrees, CanSpellLink, CanSpellState, CanSpellHeader, IsTypedState, IsHeader}
use Rattle.vx_srlfmt.specs.declared.header.Header.{Header}
use Rattle.vx_srlfmt.proofs.Lengths.{length-header_table, length-link_bytes}
use Rattle.vx_srlfmt.proofs.CodeLemmas.{Agrees-role_of, role_of-role_code, role_code-lt, mark_of-mark_code, mark_code-lt, phase_of-phase_code, phase_code-lt, mode_of-mode_code, mode_code-lt, sync_of-sync_code, sync_code-lt, prot_of-prot_code, prot_code-lt, attached_of-flags_code, bunker_of-flags_code, flags_code-lt}

-- the numbers of a link
record HasLink (xs : List ℕ) (l : KeptLink) : Type 0 where
  site : number_at 4 0 xs ≡ l.site
  flags : number_at 1 4 xs ≡ flags_code l.attached l.bunker
  mode : number_at 1 5 xs ≡ mode_code l.mode
  sync : number_at 1 6 xs ≡ sync_code l.sync
  prot : number_at 1 7 xs ≡ prot_code l.prot
  stored : number_at 8 8 xs ≡ l.stored
  start : number_at 8 16 xs ≡ l.start

HasLink-link_bytes : (l : KeptLink) (rest : List ℕ) → CanSpellLink l → l.site < 2 ^ 32 → HasLink (link_bytes l ++ rest) l
unfolding number_at be_bytes spelled link_table
HasLink-link_bytes l rest can typed = record {
  site = reads_back 4 l.site typed;
  flags = reads_back 1 (flags_code l.attached l.bunker) (flags_code-lt l.attached l.bunker);
  mode = reads_back 1 (mode_code l.mode) (mode_code-lt l.mode);
  sync = reads_back 1 (sync_code l.sync) (sync_code-lt l.sync);
  prot = reads_back 1 (prot_code l.prot) (prot_code-lt l.prot);
  stored = reads_back 8 l.stored (omega (arith, can.stored));
  start = reads_back 8 l.start (omega (arith, can.start));
}

link_at-has : (xs : List ℕ) (l : KeptLink) → HasLink xs l → link_at 0 xs ≡ l
link_at-has xs l h =
    rw (h.site, h.flags, h.mode, h.sync, h.prot, h.stored, h.start, attached_of-flags_code, bunker_of-flags_code, mode_of-mode_code, sync_of-sync_code, prot_of-prot_code) refl

link_at-behind : (before xs : List ℕ) → link_at (length before) (before ++ xs) ≡ link_at 0 xs
link_at-behind before xs =
    let site : number_at 4 (length before) (before ++ xs) ≡ number_at 4 0 xs =
    ap (λ (k : ℕ). number_at 4 k (before ++ xs)) (sym (add-zero (length before))) ∙ number_at-behind 4 0 before xs in
    rw (site, number_at-behind 1 4 before xs, number_at-behind 1 5 before xs, number_at-behind 1 6 before xs, number_at-behind 1 7 before xs, number_at-behind 8 8 before xs, number_at-behind 8 16 before xs) refl

-- the links that stand one behind the other
links_at-again : (ls : List KeptLink) (at : ℕ) (before rest : List ℕ) → at ≡ length before → AllByRecursion CanSpellLink ls → AllByRecursion (λ l. l.site < 2 ^ 32) ls
    → links_at (length ls) at (before ++ (flat_map link_bytes ls ++ rest)) ≡ ls
unfolding links_at
links_at-again [] at before rest same can typed = refl
links_at-again (l ∷ ls) at before rest same can typed =
    let others : List ℕ = flat_map link_bytes ls ++ rest in
    let grouped : before ++ (flat_map link_bytes (l ∷ ls) ++ rest) ≡ before ++ (link_bytes l ++ others) =
    ap (λ (t : List ℕ). before ++ t) (append_assoc (link_bytes l) (flat_map link_bytes ls) rest) in
    let first : link_at at (before ++ (link_bytes l ++ others)) ≡ l =
    ap (λ (n : ℕ). link_at n (before ++ (link_bytes l ++ others))) same ∙ link_at-behind before (link_bytes l ++ others)
    ∙ link_at-has (link_bytes l ++ others) l (HasLink-link_bytes l others can.0 typed.0) in
    let next : at + 24 ≡ length (before ++ link_bytes l) = omega (arith, length-append before (link_bytes l), length-link_bytes l) in
    let second : links_at (length ls) (at + 24) (before ++ (link_bytes l ++ others)) ≡ ls =
    ap (links_at (length ls) (at + 24)) (sym (append_assoc before (link_bytes l) others)) ∙ links_at-again ls (at + 24) (before ++ link_bytes l) rest next can.1 typed.1 in
    ap (λ (b : List ℕ). link_at at b ∷ links_at (length ls) (at + 24) b) grouped
    ∙ ap (λ (m : KeptLink). m ∷ links_at (length ls) (at + 24) (before ++ (link_bytes l ++ others))) first
    ∙ ap (λ (ms : List KeptLink). l ∷ ms) second

-- the numbers of a state
record HasState (block : List ℕ) (s : State) : Type 0 where
  generation : number_at 8 16 block ≡ s.line.generation
  origin : number_at 4 24 block ≡ s.line.origin
  top : number_at 8 28 block ≡ s.top
  role : number_at 1 80 block ≡ role_code s.role
  mark : number_at 1 81 block ≡ mark_code s.mark
  phase : number_at 1 82 block ≡ phase_code s.phase
  replay : number_at 8 83 block ≡ s.replay
  end : number_at 8 91 block ≡ s.end
  other : number_at 4 99 block ≡ s.other
  parent : number_at 8 103 block ≡ s.parent.generation
  parent_origin : number_at 4 111 block ≡ s.parent.origin
  fork : number_at 8 115 block ≡ s.fork
  count : number_at 1 123 block ≡ length s.links

-- the numbers of a header beside them
record HasHeader (block : List ℕ) (h : Header) : Type 0 where
  stamp : number_at 8 8 block ≡ h.stamp
  incarnation : number_at 8 36 block ≡ h.incarnation
  floor : number_at 8 44 block ≡ h.floor
  run : number_at 8 52 block ≡ h.run
  low : number_at 8 60 block ≡ h.low
  place : number_at 4 68 block ≡ h.place
  applied : number_at 8 72 block ≡ h.applied

HasState-table : (h : Header) (rest : List ℕ) → CanSpellState h.state → IsTypedState h.state → HasState (spelled (header_table h) ++ rest) h.state
unfolding number_at be_bytes spelled header_table
HasState-table h rest can typed = record {
  generation = reads_back 8 h.state.line.generation (omega (arith, can.generation));
  origin = reads_back 4 h.state.line.origin typed.origin;
  top = reads_back 8 h.state.top (omega (arith, can.top));
  role = reads_back 1 (role_code h.state.role) (role_code-lt h.state.role);
  mark = reads_back 1 (mark_code h.state.mark) (mark_code-lt h.state.mark);
  phase = reads_back 1 (phase_code h.state.phase) (phase_code-lt h.state.phase);
  replay = reads_back 8 h.state.replay (omega (arith, can.replay));
  end = reads_back 8 h.state.end (omega (arith, can.end));
  other = reads_back 4 h.state.other typed.other;
  parent = reads_back 8 h.state.parent.generation (omega (arith, can.parent));
  parent_origin = reads_back 4 h.state.parent.origin typed.parent;
  fork = reads_back 8 h.state.fork (omega (arith, can.fork));
  count = reads_back 1 (length h.state.links) (omega (arith, can.few));
}

HasHeader-table : (h : Header) (rest : List ℕ) → CanSpellHeader h → h.place < 2 ^ 32 → HasHeader (spelled (header_table h) ++ rest) h
unfolding number_at be_bytes spelled header_table
HasHeader-table h rest can typed = record {
  stamp = reads_back 8 h.stamp (omega (arith, can.stamp));
  incarnation = reads_back 8 h.incarnation (omega (arith, can.incarnation));
  floor = reads_back 8 h.floor (omega (arith, can.floor));
  run = reads_back 8 h.run (omega (arith, can.run));
  low = reads_back 8 h.low (omega (arith, can.low));
  place = reads_back 4 h.place typed;
  applied = reads_back 8 h.applied (omega (arith, can.applied));
}

state_in-has : (block : List ℕ) (s : State) → HasState block s → Agrees s.role s.other → length s.links ≤ 4 → links_at (length s.links) 124 block ≡ s.links → state_in block ≡ s
unfolding state_in
state_in-has block s h agrees few links =
    let count : min (length s.links) 4 ≡ length s.links = omega arith in
    let role : role_of (role_code s.role) s.other ≡ s.role = role_of-role_code s.role s.other agrees in
    rw (h.generation, h.origin, h.top, h.role, h.mark, h.phase, h.replay, h.end, h.other, h.parent, h.parent_origin, h.fork, h.count, count, links, role, mark_of-mark_code, phase_of-phase_code) refl

header_in-has : (block : List ℕ) (h : Header) → HasHeader block h → state_in block ≡ h.state → header_in block ≡ h
unfolding header_in
header_in-has block h has state = rw (state, has.stamp, has.incarnation, has.floor, has.run, has.low, has.place, has.applied) refl

-- a header's block, the links and what is behind them apart
split : (h : Header) → (tail : List ℕ) × (header_block h ≡ spelled (header_table h) ++ (flat_map link_bytes h.state.links ++ tail))
unfolding header_block header_fields sealed filled
split h =
    let table : List ℕ = spelled (header_table h) in
    let links : List ℕ = flat_map link_bytes h.state.links in
    let pad : List ℕ = zero_bytes (480 - length (table ++ links)) in
    let seal : List ℕ = digest_of ((table ++ links) ++ pad) in
    (pad ++ seal, append_assoc (table ++ links) pad seal ∙ append_assoc table links (pad ++ seal))

-- what is read in a header's block is the header
pub header_in-header_block : (h : Header) → CanSpellHeader h → IsTypedState h.state → h.place < 2 ^ 32 → header_in (header_block h) ≡ h
header_in-header_block h can typed place =
    let tail : List ℕ = (split h).0 in
    let rest : List ℕ = flat_map link_bytes h.state.links ++ tail in
    let table : List ℕ = spelled (header_table h) in
    let links : links_at (length h.state.links) 124 (table ++ rest) ≡ h.state.links =
    links_at-again h.state.links 124 table tail (sym (length-header_table h)) (recursion_from_All CanSpellLink h.state.links can.state.links) (recursion_from_All (λ l. l.site < 2 ^ 32) h.state.links typed.sites) in
    let state : state_in (table ++ rest) ≡ h.state =
    state_in-has (table ++ rest) h.state (HasState-table h rest can.state typed) can.state.role can.state.few links in
    ap header_in (split h).1 ∙ header_in-has (table ++ rest) h (HasHeader-table h rest can place) state

-- one block is the spelling of one header
pub header_in-is : (block : List ℕ) (h : Header) → IsHeader block h → header_in block ≡ h
header_in-is block h is = ap header_in is.is ∙ header_in-header_block h is.can is.typed is.place

length-links_at : (n at : ℕ) (block : List ℕ) → length (links_at n at block) ≡ n
unfolding links_at
length-links_at zero at block = refl
length-links_at (suc n) at block = ap suc (length-links_at n (at + 24) block)

-- what is read has a role that agrees, and few links
pub Agrees-header_in : (block : List ℕ) → Agrees (header_in block).state.role (header_in block).state.other
unfolding header_in state_in
Agrees-header_in block = Agrees-role_of (number_at 1 80 block) (number_at 4 99 block)

pub few-header_in : (block : List ℕ) → length (header_in block).state.links ≤ 4
unfolding header_in state_in
few-header_in block = omega (arith, length-links_at (min (number_at 1 123 block) 4) 124 block)

-- a header's block begins with its magic
begins_table : (h : Header) (rest : List ℕ) → take 8 (spelled (header_table h) ++ rest) ≡ be_bytes 8 header_magic
unfolding be_bytes spelled header_table
begins_table h rest = refl

pub begins_header : (block : List ℕ) (h : Header) → IsHeader block h → take 8 block ≡ be_bytes 8 header_magic
begins_header block h is = ap (take 8) (is.is ∙ (split h).1) ∙ begins_table h (flat_map link_bytes h.state.links ++ (split h).0)
