-- Accounts of a group that go on, call by call.
use Rattle.std.proofs.Common.{◌≡◌, ◌∙◌, ◌⊎◌, inl, inr, zero, suc, ℕ, ◌-◌, ◌≤◌, Bool, true, false, IsTrue, length, ap, sym, subst, refl, arith}
use Rattle.std.specs.Prelude.{◌^◌, Err, None, Ok, OnOk, Option, Result, slice_get}
use Rattle.std.proofs.lemmas.Bool.{cases_lt}
use Rattle.vx_config.specs.Checks.{is_sound}
use Rattle.vx_config.specs.declared.config.Config.{Config}
use Rattle.vx_config.specs.declared.entry.PlexEntry.{PlexEntry}
use Rattle.vx_copies.specs.Marks.{failed_at}
use Rattle.vx_disk.specs.Causes.{Cause}
use Rattle.vx_disk.specs.Counts.{Rose}
use Rattle.vx_disk.specs.Shelf.{Meaning}
use Rattle.vx_disk.specs.declared.shelf.ShelfError.{ShelfError}
use Rattle.vx_disk.specs.declared.shelf.ShelfError.TheVariants.{Fault, Down}
use Rattle.vx_volume.specs.Plexes.{active, uses, uses_or}
use Rattle.vx_volume.specs.Volumes.{PlexBlamed}
use Rattle.vx_kept.specs.Finds.{AllAtOnce, FindsFrom, NoConfiguration}
use Rattle.vx_group.specs.Finds.{GroupFinds, MissesOpenly}
use Rattle.vx_group.specs.Holding.{config_by, wide}
use Rattle.vx_group.specs.Loses.{AnyBlamed, LosesPlexes}
use Rattle.vx_group.specs.Stands.{inner_meaning}
use Rattle.vx_group.specs.declared.group_core.Held.{Held}
use Rattle.vx_group.specs.declared.group_core.GroupCore.{GroupCore}
use Rattle.vx_group.proofs.FindingLemmas.{newest_goes}
use Rattle.vx_kept.proofs.Findings.{less_newest}
use Rattle.vx_group.proofs.LoseLemmas.{loses_same, none_parts, then_parts}
use Rattle.vx_grouped.specs.ConfigMoves.{LosesSome}
use Rattle.vx_grouped.specs.CoreMoves.{BothOn}
use Rattle.vx_grouped.proofs.MovesLemmas.{loses_some, used_below}
use Rattle.vx_grouped.specs.GroupNotes.{is_sure}
use Rattle.vx_grouped.proofs.ImageLemmas.{sure_by, sure_free, sure_kept}
use Rattle.vx_ground.specs.Accounts.{DisksQuiet, FewDisk, GroundSince, GroundState, PlexQuiet, ground_state}
use Rattle.vx_loggroup.proofs.SettledFacts.{count_or, plex_high}

rose_on : (a b c : ℕ) → b ≤ c → Rose a b → Rose a c
rose_on a b c more rose = record {
  fell_not = (let low = rose.fell_not in omega (arith, low, more));
  rose = elim rose.rose [
    | inl lt ↦ inl (omega (arith, lt, more))
    | inr top ↦ inr (omega (arith, top, more))
  ];
}

rose_back : (a b c : ℕ) → a ≤ b → Rose b c → Rose a c
rose_back a b c more rose = record {
  fell_not = (let low = rose.fell_not in omega (arith, low, more));
  rose = elim rose.rose [
    | inl lt ↦ inl (omega (arith, lt, more))
    | inr top ↦ inr top
  ];
}

-- no call yet
pub ground_none : (a : GroundState) (m : Meaning) → GroundSince a m a m
ground_none a m = record {
  parts = none_parts a.config;
  frames = λ v. refl;
  counts = λ u. omega arith;
  lies = λ v p u. refl;
  plexes = λ v p quiet is. is;
  on = λ v p quiet is. is;
  blocks = λ u. refl;
  blamed = λ u off on none. let clash : false ≡ true = sym off ∙ on in cc;
  stays = λ u on. on;
  openly = λ clear. clear;
  newest = λ clear was is. was is;
  falls = λ is. is;
  sure = λ is quiet up. is;
}

-- and one call more
module _ (a : GroundState) (c d : GroupCore) (m0 m m' : Meaning) (first : (u : ℕ) → m.disk_faults u ≡ m.faults u) (last : (u : ℕ) → m'.disk_faults u ≡ m'.faults u) (since : GroundSince a m0 (ground_state c) m) (sound : is_sound c.inner.config ≡ true)
    (more : (u : ℕ) → m.disk_faults u ≤ m'.disk_faults u) (falls : IsTrue m.down → IsTrue m'.down) where
  quiet_before : (v p : ℕ) → PlexQuiet a.config v p m0 m' → PlexQuiet a.config v p m0 m
  quiet_before v p quiet = record { none = λ u its rose. quiet.none u its (rose_on (m0.disk_faults u) (m.disk_faults u) (m'.disk_faults u) (more u) rose) }

  quiet_after : (v p : ℕ) → PlexQuiet a.config v p m0 m' → PlexQuiet c.inner.config v p m m'
  quiet_after v p quiet = record { none = λ u its rose. quiet.none u (sym (since.lies v p u) ∙ its) (rose_back (m0.disk_faults u) (m.disk_faults u) (m'.disk_faults u) (since.counts u) rose) }

  counted : (u : ℕ) → Rose (m.faults u) (m'.faults u) → Rose (m.disk_faults u) (m'.disk_faults u)
  counted u rose = subst (λ (k : ℕ). Rose k (m'.disk_faults u)) (sym (first u)) (subst (λ (k : ℕ). Rose (m.faults u) k) (sym (last u)) rose)

  -- on no disk a call failed before this one, nor in it
  all_before : DisksQuiet m0 m' → DisksQuiet m0 m
  all_before quiet = record { none = λ u low rose. quiet.none u low (rose_on (m0.disk_faults u) (m.disk_faults u) (m'.disk_faults u) (more u) rose) }

  all_after : DisksQuiet m0 m' → DisksQuiet m m'
  all_after quiet = record { none = λ u low rose. quiet.none u low (rose_back (m0.disk_faults u) (m.disk_faults u) (m'.disk_faults u) (since.counts u) rose) }

  -- a call that answers Ok leaves the newest configuration committed
  sure_after : {T : Type 0} (unit : ℕ) (r : Result T ShelfError) → (c.held ≡ None → d.held ≡ None) → Cause (inner_meaning (wide c) m) (inner_meaning (wide d) m') unit r → FewDisk r
      → OnOk r (c.inner.committed ≡ true → d.inner.committed ≡ true) → is_sure c ≡ true → DisksQuiet m m' → (IsTrue m'.down → ⊥) → is_sure d ≡ true
  sure_after unit (Ok done) free cause few trust is quiet up = sure_by d.inner.committed d.held (trust (sure_kept c.inner.committed c.held is)) (free (sure_free c.inner.committed c.held is))
  sure_after unit (Err (Fault disk)) free cause few trust is quiet up = absurd (quiet.none disk few cause.0.disk_count)
  sure_after unit (Err Down) free cause few trust is quiet up = absurd (up cause)

  module _ (loses : LosesPlexes c.inner.config d.inner.config m m') where
    plexes_then : (v p : ℕ) → PlexQuiet a.config v p m0 m' → IsTrue (active a.config v p) → IsTrue (active d.inner.config v p)
    plexes_then v p quiet is = elim (loses.plexes v p (since.plexes v p (quiet_before v p quiet) is)) [
      | inl on ↦ on
      | inr blamed ↦ absurd ((quiet_after v p quiet).none blamed.disk blamed.is_its (counted blamed.disk blamed.rose))
    ]

    on_then : (v p : ℕ) → ((q : ℕ) → PlexQuiet a.config v q m0 m') → IsTrue (active d.inner.config v p) → IsTrue (active a.config v p)
    on_then v p quiet is = since.on v p (λ q. quiet_before v q (quiet q))
        (elim (loses.on v p is) [
          | inl on ↦ on
          | inr any ↦ absurd ((quiet_after v any.0 (quiet any.0)).none any.1.disk any.1.is_its (counted any.1.disk any.1.rose))
        ])

    blamed_by : (u : ℕ) (t : Bool) → failed_at c.inner.config.disks u ≡ t → failed_at a.config.disks u ≡ false → failed_at d.inner.config.disks u ≡ true → (Rose (m0.disk_faults u) (m'.disk_faults u) → ⊥) → ⊥
    blamed_by u true is off on none = since.blamed u off is (λ rose. none (rose_on (m0.disk_faults u) (m.disk_faults u) (m'.disk_faults u) (more u) rose))
    blamed_by u false is off on none = none (rose_back (m0.disk_faults u) (m.disk_faults u) (m'.disk_faults u) (since.counts u) (counted u (loses.disks.blamed u is on)))

    module _ (openly : MissesOpenly (wide c) → MissesOpenly (wide d)) (newest : MissesOpenly (wide c) → (c.inner.committed ≡ true → AllAtOnce (wide c).config m) → d.inner.committed ≡ true → AllAtOnce (wide d).config m')
        (sure : is_sure c ≡ true → DisksQuiet m m' → (IsTrue m'.down → ⊥) → is_sure d ≡ true) where
      pub since_goes : GroundSince a m0 (ground_state d) m'
      since_goes = record {
        parts = then_parts a.config c.inner.config d.inner.config since.parts loses.parts;
        frames = λ v. loses.frames v ∙ since.frames v;
        counts = λ u. (let low = since.counts u in let high = more u in omega (arith, low, high));
        lies = λ v p u. loses.lies v p u ∙ since.lies v p u;
        plexes = plexes_then;
        on = on_then;
        blocks = λ u. loses.disks.blocks u ∙ since.blocks u;
        blamed = λ u. blamed_by u (failed_at c.inner.config.disks u) refl;
        stays = λ u on. loses.disks.stays u (since.stays u on);
        openly = λ clear. openly (since.openly clear);
        newest = λ clear was is. newest (since.openly clear) (since.newest clear was) is;
        falls = λ is. falls (since.falls is);
        sure = λ is quiet up. sure (since.sure is (all_before quiet) (λ down. up (falls down))) (all_after quiet) up;
      }

    -- a write or a flush
    pub since_loses : {T : Type 0} (unit : ℕ) (r : Result T ShelfError) → GroupFinds c d m m' → Cause (inner_meaning (wide c) m) (inner_meaning (wide d) m') unit r → FewDisk r
        → OnOk r (c.inner.committed ≡ true → d.inner.committed ≡ true) → GroundSince a m0 (ground_state d) m'
    since_loses unit r finds cause few trust =
        since_goes finds.core.openly (λ clear was is. newest_goes c d m m' clear was finds.core is) (sure_after unit r finds.free cause few trust)

  -- a read, which leaves the configuration, and no image that there was not
  pub since_same : d.inner.config ≡ c.inner.config → d.held ≡ c.held → d.inner.committed ≡ c.inner.committed → d.inner.unsettled ≡ c.inner.unsettled → FindsFrom NoConfiguration m m' → GroundSince a m0 (ground_state d) m'
  since_same same held committed unsettled finds =
      since_goes (subst (λ (x : Config). LosesPlexes c.inner.config x m m') (sym same) (loses_same c.inner.config m m')) (λ clear is. committed ∙ clear (sym unsettled ∙ is))
      (λ clear was is.
      let seen : (wide d).config ≡ (wide c).config = ap (λ (x : Config). config_by d.held x) same ∙ ap (λ (o : Option Held). config_by o c.inner.config) held in
      subst (λ (y : Config). AllAtOnce y m') (sym seen) (less_newest (wide c).config m m' (was (sym committed ∙ is)) finds))
      (λ is quiet up. sure_by d.inner.committed d.held (committed ∙ sure_kept c.inner.committed c.held is) (held ∙ sure_free c.inner.committed c.held is))

-- accounts in a row
module _ (a b c : GroundState) (m0 m1 m2 : Meaning) (one : GroundSince a m0 b m1) (two : GroundSince b m1 c m2) where
  quiet_first : (v p : ℕ) → PlexQuiet a.config v p m0 m2 → PlexQuiet a.config v p m0 m1
  quiet_first v p quiet = record { none = λ u its rose. quiet.none u its (rose_on (m0.disk_faults u) (m1.disk_faults u) (m2.disk_faults u) (two.counts u) rose) }

  quiet_last : (v p : ℕ) → PlexQuiet a.config v p m0 m2 → PlexQuiet b.config v p m1 m2
  quiet_last v p quiet = record { none = λ u its rose. quiet.none u (sym (one.lies v p u) ∙ its) (rose_back (m0.disk_faults u) (m1.disk_faults u) (m2.disk_faults u) (one.counts u) rose) }

  blamed_both : (u : ℕ) (t : Bool) → failed_at b.config.disks u ≡ t → failed_at a.config.disks u ≡ false → failed_at c.config.disks u ≡ true → (Rose (m0.disk_faults u) (m2.disk_faults u) → ⊥) → ⊥
  blamed_both u true is off on none = one.blamed u off is (λ rose. none (rose_on (m0.disk_faults u) (m1.disk_faults u) (m2.disk_faults u) (two.counts u) rose))
  blamed_both u false is off on none = two.blamed u is on (λ rose. none (rose_back (m0.disk_faults u) (m1.disk_faults u) (m2.disk_faults u) (one.counts u) rose))

  all_first : DisksQuiet m0 m2 → DisksQuiet m0 m1
  all_first quiet = record { none = λ u low rose. quiet.none u low (rose_on (m0.disk_faults u) (m1.disk_faults u) (m2.disk_faults u) (two.counts u) rose) }

  all_last : DisksQuiet m0 m2 → DisksQuiet m1 m2
  all_last quiet = record { none = λ u low rose. quiet.none u low (rose_back (m0.disk_faults u) (m1.disk_faults u) (m2.disk_faults u) (one.counts u) rose) }

  pub ground_both : GroundSince a m0 c m2
  ground_both = record {
    parts = then_parts a.config b.config c.config one.parts two.parts;
    frames = λ v. two.frames v ∙ one.frames v;
    counts = λ u. (let low = one.counts u in let high = two.counts u in omega (arith, low, high));
    lies = λ v p u. two.lies v p u ∙ one.lies v p u;
    plexes = λ v p quiet is. two.plexes v p (quiet_last v p quiet) (one.plexes v p (quiet_first v p quiet) is);
    on = λ v p quiet is. one.on v p (λ q. quiet_first v q (quiet q)) (two.on v p (λ q. quiet_last v q (quiet q)) is);
    blocks = λ u. two.blocks u ∙ one.blocks u;
    blamed = λ u. blamed_both u (failed_at b.config.disks u) refl;
    stays = λ u on. two.stays u (one.stays u on);
    openly = λ clear. two.openly (one.openly clear);
    newest = λ clear was is. two.newest (one.openly clear) (one.newest clear was) is;
    falls = λ is. two.falls (one.falls is);
    sure = λ is quiet up. two.sure (one.sure is (all_first quiet) (λ down. up (two.falls down))) (all_last quiet) up;
  }

-- ---- what the configuration has lost, of which it can be told whether a call failed

pub rose_or : (a b : ℕ) → Rose a b ⊎ (Rose a b → ⊥)
rose_or a b = elim (cases_lt a b) [
  | inl lt ↦ inl (record { fell_not = omega (arith, lt); rose = inl lt })
  | inr le ↦ elim (cases_lt b (2 ^ 64 - 1)) [
    | inl low ↦ inr (λ rose. elim rose.rose [ inl lt ↦ omega (arith, lt, le) | inr top ↦ omega (arith, top, low) ])
    | inr top ↦ elim (cases_lt b a) [
      | inl fell ↦ inr (λ rose. let low = rose.fell_not in omega (arith, low, fell))
      | inr same ↦ inl (record { fell_not = same; rose = inr top })
    ]
  ]
]

-- a place beyond the plexes of a volume has none
unused : (c : Config) (v q : ℕ) → count_or (slice_get c.volumes v) ≤ q → (u : ℕ) → IsTrue (uses c v q u) → ⊥
unfolding uses
unused c v q high u its = let none : false ≡ true = sym (ap (λ (o : Option PlexEntry). uses_or u o) (plex_high (slice_get c.volumes v) q high)) ∙ its in cc

module _ (a b : GroundState) (m m' : Meaning) (first : (u : ℕ) → m.disk_faults u ≡ m.faults u) (last : (u : ℕ) → m'.disk_faults u ≡ m'.faults u) (since : GroundSince a m b m') (on : BothOn a.config b.config m.units) where
  abbrev c : Config
  c = a.config

  abbrev d : Config
  d = b.config

  counted_by : (u : ℕ) → Rose (m.disk_faults u) (m'.disk_faults u) → Rose (m.faults u) (m'.faults u)
  counted_by u rose = subst (λ (k : ℕ). Rose k (m'.faults u)) (first u) (subst (λ (k : ℕ). Rose (m.disk_faults u) k) (last u) rose)

  -- a call failed on a disk of a plex, or none did
  seek_disk : (v p n : ℕ) → ((u : ℕ) → n ≤ u → IsTrue (uses c v p u) → Rose (m.disk_faults u) (m'.disk_faults u) → ⊥) → PlexBlamed c v p m m' ⊎ PlexQuiet c v p m m'
  seek_disk v p zero high = inr (record { none = λ u its rose. high u (omega arith) its rose })
  seek_disk v p (suc n) high = elim (rose_or (m.disk_faults n) (m'.disk_faults n)) [
    | inl rose ↦ by rose (uses c v p n) refl (λ off. seek_disk v p n (less (λ its twice. let none : false ≡ true = sym off ∙ its in cc)))
    | inr none ↦ seek_disk v p n (less (λ its rose. none rose))
  ]
    where
      less : (IsTrue (uses c v p n) → Rose (m.disk_faults n) (m'.disk_faults n) → ⊥) → (u : ℕ) → n ≤ u → IsTrue (uses c v p u) → Rose (m.disk_faults u) (m'.disk_faults u) → ⊥
      less here u le its rose = elim (cases_lt n u) [
        | inl lt ↦ high u (omega (arith, lt)) its rose
        | inr ge ↦
            let same : u ≡ n = omega (arith, le, ge) in
            here (subst (λ (k : ℕ). IsTrue (uses c v p k)) same its) (subst (λ (k : ℕ). Rose (m.disk_faults k) (m'.disk_faults k)) same rose)
      ]

      by : Rose (m.disk_faults n) (m'.disk_faults n) → (t : Bool) → uses c v p n ≡ t → (uses c v p n ≡ false → PlexBlamed c v p m m' ⊎ PlexQuiet c v p m m') → PlexBlamed c v p m m' ⊎ PlexQuiet c v p m m'
      by rose true its rest = inl (record { disk = n; is_its = its; rose = counted_by n rose })
      by rose false off rest = rest off

  blamed_or : (v p : ℕ) → PlexBlamed c v p m m' ⊎ PlexQuiet c v p m m'
  blamed_or v p = seek_disk v p (length c.disks) (λ u high its rose. let low = used_below c on.sound v p u its in omega (arith, low, high))

  -- so of some plex of a volume, or of none
  seek_plex : (v n : ℕ) → ((q : ℕ) → n ≤ q → PlexQuiet c v q m m') → AnyBlamed c v m m' ⊎ ((q : ℕ) → PlexQuiet c v q m m')
  seek_plex v zero high = inr (λ q. high q (omega arith))
  seek_plex v (suc n) high = elim (blamed_or v n) [
    | inl blamed ↦ inl (n, blamed)
    | inr quiet ↦ seek_plex v n (λ q le. elim (cases_lt n q) [
      | inl lt ↦ high q (omega (arith, lt))
      | inr ge ↦ let same : n ≡ q = omega (arith, le, ge) in subst (λ (k : ℕ). PlexQuiet c v k m m') same quiet
    ])
  ]

  any_or : (v : ℕ) → AnyBlamed c v m m' ⊎ ((q : ℕ) → PlexQuiet c v q m m')
  any_or v = seek_plex v (count_or (slice_get c.volumes v)) (λ q high. record { none = λ u its rose. unused c v q high u its })

  blamed_at : (u : ℕ) → failed_at c.disks u ≡ false → failed_at d.disks u ≡ true → Rose (m.faults u) (m'.faults u)
  blamed_at u off failed = elim (rose_or (m.disk_faults u) (m'.disk_faults u)) [
    | inl rose ↦ counted_by u rose
    | inr none ↦ absurd (since.blamed u off failed none)
  ]

  loses : LosesPlexes c d m m'
  loses = record {
    parts = since.parts;
    frames = since.frames;
    lies = since.lies;
    on = λ v p is. elim (any_or v) [ inl any ↦ inr any | inr quiet ↦ inl (since.on v p quiet is) ];
    plexes = λ v p is. elim (blamed_or v p) [ inl blamed ↦ inr blamed | inr quiet ↦ inl (since.plexes v p quiet is) ];
    disks = record { count = since.parts.count; blocks = since.blocks; stays = since.stays; blamed = blamed_at };
  }

  pub account_loses : LosesSome m m' c d
  account_loses = loses_some c d m m' first last on loses

-- what is asked of a group, carried to one that is the same by its parts
pub carried_back : {S : Type 0} (P : GroupCore → S → Type 0) (c c0 : GroupCore) (s s0 : S) → c0 ≡ c → s0 ≡ s → P c s → P c0 s0
carried_back P c c0 s s0 core shelf it = subst (λ (x : GroupCore). P x s0) (sym core) (subst (λ y. P c y) (sym shelf) it)
