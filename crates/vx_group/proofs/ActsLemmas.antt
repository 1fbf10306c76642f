-- Which blocks the calls of a group write, with its commits.
use Rattle.std.proofs.Common.{◌≡◌, ℕ, List, subst, sym}
use Rattle.vx_disk.specs.Shelf.{Meaning, Nothing, Values}
use Rattle.vx_config.specs.declared.config.Config.{Config}
use Rattle.vx_kept.specs.PlexActs.{PlexActs}
use Rattle.vx_kept.proofs.PlexActing.{both_PlexActs, wider_Acts}
use Rattle.vx_group.specs.Holding.{wide}
use Rattle.vx_group.specs.Moves.{Narrows}
use Rattle.vx_group.specs.declared.group_core.GroupCore.{GroupCore}
use Rattle.vx_group.specs.declared.inner.Inner.{Inner}

pub narrow_PlexActs : (W : Values) (c d : Inner) (m m' : Meaning) → Narrows c d m m' → PlexActs W c.config d.config m m'
narrow_PlexActs W c d m m' narrows = record { acts = wider_Acts Nothing W _ m m' narrows.acts (λ u b x none. absurd none); shape = narrows.shape; on = narrows.on }

-- a commit behind other calls
pub then_PlexActs : (W : Values) (c d e : Inner) (m m1 m2 : Meaning) → PlexActs W c.config d.config m m1 → Narrows d e m1 m2 → PlexActs W c.config e.config m m2
then_PlexActs W c d e m m1 m2 one narrows = both_PlexActs W Nothing W c.config d.config e.config m m1 m2 one (narrow_PlexActs Nothing d e m1 m2 narrows) (λ u b x put. put) (λ u b x none. absurd none)

-- and one before them
pub ready_PlexActs : (V W : Values) (c d : Inner) (e : Config) (m m1 m2 : Meaning) → Narrows c d m m1 → PlexActs V d.config e m1 m2 → ((u b : ℕ) (x : List ℕ) → V u b x → W u b x) → PlexActs W c.config e m m2
ready_PlexActs V W c d e m m1 m2 narrows two less = both_PlexActs Nothing V W c.config d.config e m m1 m2 (narrow_PlexActs Nothing c d m m1 narrows) two (λ u b x none. absurd none) less

-- behind the commit that detaches the plex that is held back
pub through_PlexActs : (F : Config → Values) (c0 mid new : GroupCore) (x e : Inner) (m m1 m2 : Meaning) → x ≡ wide mid → wide new ≡ e → Narrows (wide c0) (wide mid) m m1
    → ((u b : ℕ) (y : List ℕ) → F (wide mid).config u b y → F (wide c0).config u b y) → PlexActs (F x.config) x.config e.config m1 m2 → PlexActs (F (wide c0).config) (wide c0).config (wide new).config m m2
through_PlexActs F c0 mid new x e m m1 m2 x_is e_is narrows less acts =
    subst (λ (i : Inner). PlexActs (F (wide c0).config) (wide c0).config i.config m m2) (sym e_is)
    (ready_PlexActs (F (wide mid).config) (F (wide c0).config) (wide c0) (wide mid) e.config m m1 m2 narrows (subst (λ (i : Inner). PlexActs (F i.config) i.config e.config m1 m2) x_is acts) less)
