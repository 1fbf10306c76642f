-- The header of a log, as a block.
use Rattle.std.specs.Prelude.{◌≡◌, ℕ, ◌<◌, ◌≤◌, ◌^◌, List, [], ◌∷◌, ◌++◌, length, take, flat_map, All}
use Rattle.vx_model.specs.Numbers.{number_bound}
use Rattle.vx_model.specs.declared.site.Role.{Role}
use Rattle.vx_model.specs.declared.site.Role.TheVariants as role
use Rattle.vx_model.specs.declared.state.KeptLink.{KeptLink}
use Rattle.vx_model.specs.declared.state.State.{State}
use Rattle.vx_wire.specs.declared.field.Field.{Field}
use Rattle.vx_wire.specs.declared.field.Field.TheVariants.{U8, U32, U64}
use Rattle.vx_wire.specs.Fields.{spelled}
use Rattle.vx_wire.specs.Numbers.{be_bytes}
use Rattle.vx_wire.specs.Seals.{sealed, IsSealed}
use Rattle.vx_srlfmt.specs.Codes.{role_code, mark_code, phase_code, mode_code, sync_code, prot_code, flags_code}
use Rattle.vx_srlfmt.specs.declared.header.Header.{Header}

-- the bytes "VXSRLH01"
abbrev pub header_magic : ℕ
header_magic = 0x565853524c483031

-- the fields of a header up to the number of its links
unfoldable pub header_table : Header → List Field
header_table h =
    U64 header_magic
    ∷ U64 h.stamp
    ∷ U64 h.state.line.generation
    ∷ U32 h.state.line.origin
    ∷ U64 h.state.top
    ∷ U64 h.incarnation
    ∷ U64 h.floor
    ∷ U64 h.run
    ∷ U64 h.low
    ∷ U32 h.place
    ∷ U64 h.applied
    ∷ U8 (role_code h.state.role)
    ∷ U8 (mark_code h.state.mark)
    ∷ U8 (phase_code h.state.phase)
    ∷ U64 h.state.replay
    ∷ U64 h.state.end
    ∷ U32 h.state.other
    ∷ U64 h.state.parent.generation
    ∷ U32 h.state.parent.origin
    ∷ U64 h.state.fork
    ∷ U8 (length h.state.links)
    ∷ []

-- the fields of a link
unfoldable pub link_table : KeptLink → List Field
link_table l =
    U32 l.site
    ∷ U8 (flags_code l.attached l.bunker)
    ∷ U8 (mode_code l.mode)
    ∷ U8 (sync_code l.sync)
    ∷ U8 (prot_code l.prot)
    ∷ U64 l.stored
    ∷ U64 l.start
    ∷ []

abbrev pub link_bytes : KeptLink → List ℕ
link_bytes l = spelled (link_table l)

-- the fields of a header, its links among them
unfoldable pub header_fields : Header → List ℕ
header_fields h = spelled (header_table h) ++ flat_map link_bytes h.state.links

-- the one spelling of a header
unfoldable pub header_block : Header → List ℕ
header_block h = sealed (header_fields h)

-- where a role names a site, that is the other site of the header
abbrev pub Agrees : Role → ℕ → Type 0
Agrees role.Primary other = Unit {0}
Agrees role.Secondary other = Unit {0}
Agrees (role.Handing to) other = to ≡ other
Agrees role.Bunker other = Unit {0}

-- a link that the table can spell
pub record CanSpellLink (l : KeptLink) : Type 0 where
  pub stored : l.stored < number_bound
  pub start : l.start < number_bound

-- a state that the table can spell
pub record CanSpellState (s : State) : Type 0 where
  pub generation : s.line.generation < number_bound
  pub top : s.top < number_bound
  pub role : Agrees s.role s.other
  pub replay : s.replay < number_bound
  pub end : s.end < number_bound
  pub parent : s.parent.generation < number_bound
  pub fork : s.fork < number_bound
  pub few : length s.links ≤ 4
  pub links : All CanSpellLink s.links

-- a header that the table can spell
pub record CanSpellHeader (h : Header) : Type 0 where
  pub stamp : h.stamp < number_bound
  pub state : CanSpellState h.state
  pub incarnation : h.incarnation < number_bound
  pub floor : h.floor < number_bound
  pub run : h.run < number_bound
  pub low : h.low < number_bound
  pub applied : h.applied < number_bound

-- the numbers of a state are of their types
pub record IsTypedState (s : State) : Type 0 where
  pub origin : s.line.origin < 2 ^ 32
  pub other : s.other < 2 ^ 32
  pub parent : s.parent.origin < 2 ^ 32
  pub sites : All (λ l. l.site < 2 ^ 32) s.links

-- the block begins as a header does, and its digest fails
pub record IsDamagedHeader (block : List ℕ) : Type 0 where
  pub begins : take 8 block ≡ be_bytes 8 header_magic
  pub broken : IsSealed block → ⊥

-- the block is the spelling of the header
pub record IsHeader (block : List ℕ) (h : Header) : Type 0 where
  pub can : CanSpellHeader h
  pub typed : IsTypedState h.state
  pub place : h.place < 2 ^ 32
  pub is : block ≡ header_block h
