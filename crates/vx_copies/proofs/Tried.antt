-- What a try says of configurations, by what the writing of copies says of bytes.
use Rattle.std.proofs.Common.{◌≡◌, ◌⊎◌, inl, inr, ⊎_elim, ℕ, ◌+◌, Bool, true, Option, Some, List, [], ◌++◌, take, refl, sym, subst, ◌∙◌}
use Rattle.std.proofs.lemmas.Bool.{eq-eqb}
use Rattle.std.proofs.lemmas.List.{append-nil}
use Rattle.vx_disk.specs.Shelf.{Image, Meaning}
use Rattle.vx_disk.proofs.Moving.{wider}
use Rattle.vx_copyfmt.specs.Copies.{Disk}
use Rattle.vx_copyfmt.specs.Commits.{Fit, FromNew, FromOld, Lower, Slots, Tidy, Torn, exactly}
use Rattle.vx_copyfmt.specs.declared.area.AreaHeader.{AreaHeader}
use Rattle.vx_copyio.specs.Orders.{InOrder, Ordered}
use Rattle.vx_copyio.specs.Putting.{AllNew, AreasOf, Copied, CopyStops, InImages, IsCopyMade, IsMember, LeavesNew, OldOrNew, those}
use Rattle.vx_copyio.specs.declared.spread.CopyFailed.{CopyFailed}
use Rattle.vx_copyio.proofs.Counting.{counts, fit_bytes, new_read, old_read, read_counts, tidy_read, torn_read}
use Rattle.vx_config.specs.Configs.{HasSpelling, spelled_config}
use Rattle.vx_config.specs.declared.config.Config.{Config}
use Rattle.vx_config.proofs.DecodeLemmas.{spelled-read}
use Rattle.vx_copies.specs.Bodies.{is_wanted, of_serial, reads_in}
use Rattle.vx_copies.specs.Looking.{on_shelf}
use Rattle.vx_copies.specs.Orders.{InOrderThis, OrderedThis}
use Rattle.vx_copies.specs.Tries.{AllThis, HasThis, IsThis, OldOrThese, OldOrThis, Tried, TryStops}

-- a spelling is read as its configuration
pub spelling_reads : (units : ℕ) (size : ℕ → ℕ) (bytes : List ℕ) (c : Config) → HasSpelling c → bytes ≡ spelled_config c → is_wanted units size c ≡ true → reads_in units size bytes ≡ Some c
unfolding reads_in
spelling_reads units size bytes c has is wanted =
    let all : bytes ≡ spelled_config c ++ [] = is ∙ sym (append-nil (spelled_config c)) in
    rw (spelled-read bytes c [] has all, wanted) refl

-- and behind a header of its serial
pub serial_reads : (units : ℕ) (size : ℕ → ℕ) (serial : ℕ) (bytes : List ℕ) (c : Config) → serial ≡ c.serial → reads_in units size bytes ≡ Some c → of_serial serial (reads_in units size bytes) ≡ Some c
serial_reads units size serial bytes c same is = rw (is, eq-eqb c.serial serial (sym same)) refl

module _ (h : AreaHeader) (body : List ℕ) (c : Config) (old : Meaning) (serial : h.serial ≡ c.serial) (is : on_shelf old h.serial (take h.length body) ≡ Some c) where
  abbrev reads : ℕ → List ℕ → Option Config
  reads = on_shelf old

  counted : counts reads h.serial (take h.length body) ≡ true
  counted = read_counts reads h.serial (take h.length body) c is

  fit_here : (u : ℕ) → Fit reads c.serial (old.leaves u) → Fit (those (counts reads)) h.serial (old.leaves u)
  fit_here u fit = fit_bytes reads h.serial (old.leaves u) (subst (λ (n : ℕ). Fit reads n (old.leaves u)) (sym serial) fit)

  lower_here : (u : ℕ) → Lower c.serial (old.leaves u) → Lower h.serial (old.leaves u)
  lower_here u low = subst (λ (n : ℕ). Lower n (old.leaves u)) (sym serial) low

  tidy_here : (slots : Slots) → Tidy (those (counts reads)) (h.serial + 1) slots → Tidy reads (c.serial + 1) slots
  tidy_here slots tidy = subst (λ (n : ℕ). Tidy reads (n + 1) slots) serial (tidy_read reads (h.serial + 1) slots tidy)

  this : IsThis c h.serial c
  this = record { serial_is = serial; config_is = refl }

  pub of_disk : (u : ℕ) (d : Disk) → OldOrNew u h body old d → OldOrThis c u old d
  of_disk u d one = record {
    each = λ fit. by_kind (one.each (counts reads) (fit_here u fit) counted);
    fit = λ fit. ⊎_elim (λ tidy. inl (tidy_here (exactly d) tidy)) (λ forged. inr forged) (one.fit (counts reads) (fit_here u fit) counted);
  }
    where
      by_kind : FromOld (those (counts reads)) (old.leaves u) d ⊎ FromNew (those (counts reads)) (IsCopyMade h body) (old.leaves u) d ⊎ Torn (those (counts reads)) (old.leaves u) d
          → FromOld reads (old.leaves u) d ⊎ FromNew reads (IsThis c) (old.leaves u) d ⊎ Torn reads (old.leaves u) d
      by_kind (inl from) = inl (old_read reads (old.leaves u) d from)
      by_kind (inr (inl from)) = inr (inl (new_read reads (IsThis c) h body c (old.leaves u) d is this from))
      by_kind (inr (inr torn)) = inr (inr (torn_read reads (old.leaves u) d torn))

  pub of_has : (u : ℕ) (new : Meaning) → LeavesNew u h body old new → HasThis c u old new
  of_has u new stands = record {
    made = λ d low among. new_read reads (IsThis c) h body c (old.leaves u) d is this (stands.each (counts reads) d (lower_here u low) counted among);
    tidy = λ low. tidy_here (new.leaves u) (stands.tidy (counts reads) (lower_here u low) counted);
  }

  pub of_copied : (disks : ℕ → Type 0) (new : Meaning) → Copied disks h body old new → Tried disks c old new
  of_copied disks new copied = record {
    moves = wider (AreasOf disks) (AreasOf disks) (InImages disks h body old) (OldOrThese disks c old) old new copied.moves (λ u b mine. mine)
        (λ i beside seen. record { each = λ u mine. of_disk u (i u) (seen.each u mine) });
    leaves = λ u d mine among. of_disk u d ((copied.leaves u mine).each d among);
    lower = λ u mine low. subst (λ (n : ℕ). Lower (n + 1) (new.leaves u)) serial ((copied.leaves u mine).lower (lower_here u low));
  }

  pub of_new : (disks : ℕ → Type 0) (new : Meaning) → AllNew disks h body old new → AllThis disks c old new
  of_new disks new all = record { each = λ u mine. of_has u new (all.each u mine) }

  pub of_stops : (these : ℕ → Bool) (new : Meaning) (failed : CopyFailed) → CopyStops these old.units h body old new failed → TryStops (IsMember these old.units) c old new failed
  of_stops these new failed stops = record {
    member = stops.member;
    cause = stops.cause;
    others = λ u mine other. ⊎_elim (λ same. inl same) (λ stands. inr (of_has u new stands)) (stops.others u mine other);
  }

  of_order : (first second : ℕ → Type 0) (i : Image) → InOrder first second h body old i → InOrderThis first second c old i
  of_order first second i (inl was) = inl was
  of_order first second i (inr all) =
      inr (λ u mine low. new_read reads (IsThis c) h body c (old.leaves u) (i u) is this ((all u mine).each (counts reads) (lower_here u low) counted))

  pub of_ordered : (first second : ℕ → Type 0) (new : Meaning) → Ordered first second h body old new → OrderedThis first second c old new
  of_ordered first second new ordered = record {
    along = record { each = λ t i le left. ⊎_elim (λ was. inl was) (λ now. inr (of_order first second i now)) (ordered.along.each t i le left) };
    now = λ i left. of_order first second i (ordered.now i left);
  }
