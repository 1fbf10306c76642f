-- A configuration with another replicated volume group: it is sound exactly where its volumes may be one.
use Rattle.std.proofs.Common.{◌≡◌, Bool, true, false, Option, refl, sym, ◌∙◌}
use Rattle.std.specs.Prelude.{◌&&◌, nat_le}
use Rattle.std.specs.List.{list_all}
use Rattle.std.proofs.lemmas.Bool.{and_parts}
use Rattle.vx_model.specs.declared.limits.TheConstants.{MOST_SUBDISKS}
use Rattle.vx_model.specs.declared.units.Units.{Units}
use Rattle.vx_config.specs.Checks.{are_placed, differ, group_or_none, is_sound, is_volume, pairwise, runs}
use Rattle.vx_config.specs.Configs.{subdisk_count}
use Rattle.vx_config.specs.declared.config.Config.{Config}
use Rattle.vx_group.specs.Rvgs.{with_rvg}

and_rest : (a b : Bool) → a ≡ true → a && b ≡ b
and_rest true b is = refl
and_rest false b is = absurd (let clash : false ≡ true = is in cc)

-- all that is tested but for the group
rest_of : Config → Bool
rest_of c = nat_le (subdisk_count c) MOST_SUBDISKS && are_placed c && pairwise differ c.volumes && list_all is_volume c.volumes

split : (c : Config) → is_sound c ≡ rest_of c && group_or_none c.volumes c.rvg
unfolding is_sound rest_of
split c = refl

same_rest : (rvg : Option Units) (c : Config) → rest_of (with_rvg rvg c) ≡ rest_of c
unfolding rest_of runs
same_rest rvg c = refl

pub rvg_sound : (rvg : Option Units) (c : Config) → is_sound c ≡ true → is_sound (with_rvg rvg c) ≡ group_or_none c.volumes rvg
rvg_sound rvg c sound =
    let rest : rest_of c ≡ true = (and_parts (rest_of c) (group_or_none c.volumes c.rvg) (sym (split c) ∙ sound)).0 in
    split (with_rvg rvg c) ∙ and_rest (rest_of (with_rvg rvg c)) (group_or_none c.volumes rvg) (same_rest rvg c ∙ rest)

-- so its own volumes may be one
pub group_sound : (c : Config) → is_sound c ≡ true → group_or_none c.volumes c.rvg ≡ true
group_sound c sound = (and_parts (rest_of c) (group_or_none c.volumes c.rvg) (sym (split c) ∙ sound)).1
