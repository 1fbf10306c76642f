-- The spelling of a configuration at the front of a room.
use Rattle.std.proofs.Common.{◌≡◌, ℕ, ◌+◌, ◌<◌, ◌≤◌, List, ◌++◌, length, take, drop, ap, sym, ◌∙◌, arith}
use Rattle.std.specs.Prelude.{◌/◌}
use Rattle.std.specs.Int.{div_ceil}
use Rattle.std.proofs.lemmas.List.{length-append, length-take-le, take_at}
use Rattle.vx_wire.specs.Numbers.{be_bytes}
use Rattle.vx_wire.specs.Places.{put_at}
use Rattle.vx_wire.proofs.NumberLemmas.{length-be_bytes}
use Rattle.vx_wire.proofs.PlaceLemmas.{length-put_at, put_at-put_at}
use Rattle.vx_config.specs.Configs.{spelled_config}
use Rattle.vx_config.specs.Table.{config, format_1}
use Rattle.vx_config.specs.declared.config.Config.{Config}

-- it begins with its version
pub spelled_some : (c : Config) → 0 < length (spelled_config c)
unfolding spelled_config config
spelled_some c = omega (arith, length-append (be_bytes 4 1) (format_1.spell c), length-be_bytes 4 1)

front_kept : (n : ℕ) (new bytes : List ℕ) → n ≤ length bytes → take n (put_at n new bytes) ≡ take n bytes
unfolding put_at
front_kept n new bytes le =
    let len : length (take n bytes) ≡ n = length-take-le n bytes le in
    take_at (take n bytes) (new ++ drop (n + length new) bytes) n len

front_put : (s room : List ℕ) (n : ℕ) → length s ≡ n → take n (put_at 0 s room) ≡ s
unfolding put_at
front_put s room n len = take_at s (drop (0 + length s) room) n len

pub front_is : (n : ℕ) (s zero room : List ℕ) → n ≡ length s → length s ≤ length room → take n (put_at n zero (put_at 0 s room)) ≡ s
front_is n s zero room len fits =
    front_kept n zero (put_at 0 s room) (omega (arith, len, fits, length-put_at 0 s room (omega (arith, fits)))) ∙ front_put s room n (sym len)

pub front_after : (n : ℕ) (s zero old mid new : List ℕ) → n ≡ length s → length s ≤ length old → mid ≡ put_at 0 s old → new ≡ put_at n zero mid → take n new ≡ s
front_after n s zero old mid new len fits is_mid is_new = ap (take n) (is_new ∙ ap (put_at n zero) is_mid) ∙ front_is n s zero old len fits

pub text_after : (n : ℕ) (s zero old mid new : List ℕ) → n ≡ length s → mid ≡ put_at 0 s old → new ≡ put_at n zero mid → new ≡ put_at 0 (s ++ zero) old
text_after n s zero old mid new len is_mid is_new = is_new ∙ ap (put_at n zero) is_mid ∙ put_at-put_at 0 n s zero old (omega (arith, len)) (omega arith)

pub ceil_is : (n : ℕ) → div_ceil n 512 ≡ (n + 511) / 512
ceil_is n = omega arith
