-- A volume of disks that crashed of which the plexes that take part are alike has behind an import what an image of the disks shows.
use Rattle.std.proofs.Common.{◌≡◌, ◌∙◌, ◌⊎◌, ⊎_elim, ℕ, Bool, true, IsTrue, List, refl, sym, subst, arith}
use Rattle.vx_config.specs.Checks.{is_sound}
use Rattle.vx_config.specs.declared.config.Config.{Config}
use Rattle.vx_copies.specs.Answers.{returned}
use Rattle.vx_disk.specs.Racks.{Alike}
use Rattle.vx_disk.specs.Shelf.{Meaning}
use Rattle.vx_group.specs.Holding.{wide}
use Rattle.vx_group.specs.Stands.{inner_meaning}
use Rattle.vx_group.specs.declared.group_core.GroupCore.{GroupCore}
use Rattle.vx_kept.specs.Choice.{chosen, live}
use Rattle.vx_kept.specs.Groups.{OnSome}
use Rattle.vx_kept.specs.Keeping.{Extends}
use Rattle.vx_kept.proofs.Narrower.{on_live, sound_chosen}
use Rattle.vx_layout.specs.Places.{place}
use Rattle.vx_group.specs.Settles.{LivesAgree}
use Rattle.vx_volume.specs.Plexes.{Inside}
use Rattle.vx_grouped.specs.Brings.{TookVolumes}
use Rattle.vx_diskset.proofs.OverCrash.{shown, shows}

pub returned_place : (readable : ℕ → Bool) (x : Config) (v p b : ℕ) → place (returned readable x) v p b ≡ place x v p b
unfolding place
returned_place readable x v p b = refl

pub returned_live : (readable : ℕ → Bool) (x : Config) (v p : ℕ) → live (returned readable x) v p ≡ live x v p
unfolding live
returned_live readable x v p = refl

module _ (r first : Meaning) (core : GroupCore) (m : Meaning) (alike : Alike r first) (took : TookVolumes first core m) (c : Config) (extends : Extends took.config c) where
  abbrev x : Config
  x = took.config

  same_place : (v p b : ℕ) → place took.opened v p b ≡ place x v p b
  same_place v p b = took.opens.alike.shape.place v p b ∙ returned_place took.readable x v p b

  same_live : (v p : ℕ) → live took.opened v p ≡ live x v p
  same_live v p = took.opens.alike.lives v p ∙ returned_live took.readable x v p

  inside_x : (v b : ℕ) → Inside c v b → Inside x v b
  inside_x v b inside = record {
    volume = let low = inside.volume in let more = extends.volumes in omega (arith, low, more);
    within = let low = inside.within in let same = extends.blocks v inside.volume in omega (arith, low, same);
  }

  inside_opened : (v b : ℕ) → Inside c v b → Inside took.opened v b
  inside_opened v b inside =
      let here = inside_x v b inside in
      record {
        volume = let low = here.volume in let same = took.opens.alike.shape.volumes in omega (arith, low, same);
        within = let low = here.within in let same = took.opens.alike.shape.blocks v in omega (arith, low, same);
      }

  -- the plex that the image shows takes part
  chosen_live : is_sound x ≡ true → (v b : ℕ) → Inside c v b → IsTrue (live x v (chosen x v))
  chosen_live sound v b inside = sound_chosen x sound v ((inside_x v b inside).volume)

  pub clean_value : is_sound x ≡ true → (v b : ℕ) (value : List ℕ) → LivesAgree x v r → Inside c v b → (inner_meaning (wide core) m).leaves v b value → value ≡ shown c x took.image v b
  clean_value sound v b value agree inside left =
      ⊎_elim (λ was. ⊎_elim on (λ out. absurd (out.outside (inside_opened v b inside))) was) (λ none. absurd none) (took.goes.leaves v b value left)
    where
      on : OnSome took.opened first.leaves v b value → value ≡ shown c x took.image v b
      on some =
          agree.so some.plex (chosen x v) b value (took.image (place x v (chosen x v) b).0 (place x v (chosen x v) b).1) (inside_x v b inside) (sym (same_live v some.plex) ∙ on_live took.opened v some.plex some.is_on) (chosen_live sound v b inside)
          (alike.contents.leaves (place x v some.plex b).0 (place x v some.plex b).1 value (subst (λ (at : ℕ × ℕ). first.leaves at.0 at.1 value) (same_place v some.plex b) some.value))
          (alike.contents.leaves (place x v (chosen x v) b).0 (place x v (chosen x v) b).1 _ (took.each (place x v (chosen x v) b).0 (place x v (chosen x v) b).1))
          ∙ sym ((shows c x took.image).here v b inside)
