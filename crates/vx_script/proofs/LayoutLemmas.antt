-- A layout's words stand before the rest.
use Rattle.std.proofs.Common.{◌≡◌, List, [], ◌∷◌, ◌++◌, refl, append_assoc}
use Rattle.vx_script.specs.Tokens.{Token, spaced}
use Rattle.vx_script.specs.Grammar.{layout_tokens}
use Rattle.vx_script.specs.declared.line.Layout.{Layout}
use Rattle.vx_script.specs.declared.line.Layout.TheVariants.{Concat, Stripe}

spaced_append : (ts us : List Token) → spaced (ts ++ us) ≡ spaced ts ++ spaced us
spaced_append [] us = refl
spaced_append (t ∷ ts) us = rw (spaced_append ts us) (simp append_assoc)

pub layout_spaced : (layout : Layout) (more : List Token) → spaced (layout_tokens layout more) ≡ spaced (layout_tokens layout []) ++ spaced more
layout_spaced Concat more = spaced_append (layout_tokens Concat []) more
layout_spaced (Stripe columns width) more = spaced_append (layout_tokens (Stripe columns width) []) more
