-- A list that goes on a site at a time is the list of differences.
use Prim.Native.Nat.{ℕ, ◌+◌, ◌*◌, ◌≤◌}
use native.Mathlib.Omega.{arith}
use mathlib.Core.Path.{◌≡◌, refl, sym, ap, ◌∙◌}
use mathlib.Core.Bool.{Bool, true, false, cond}
use mathlib.Core.List.{List, [], ◌∷◌, ◌++◌}
use lib.Dec.{leb}
use lib.ListN.{length}
use borrow.Author.Tests.{le-leb}
use Rattle.rules.specs.Rows.{difference_width}
use Rattle.rules.specs.Differences.{Site, differs, difference_row, differences_from}
use Rattle.rules.proofs.RowsLaws.{Wide}
use Rattle.rows.specs.Put.{put}
use Rattle.rows.proofs.PutLaws.{put-length, put-none, put-append}
use Rattle.differ2000.specs.Listing.{Listing, listing, put_fit, list_site, list_sites}

module _ (older newer s : List ℕ) where
  abbrev all : List Site → Listing → Listing
  all xs st = list_sites older newer s xs st

  abbrev row : ℕ → Site → List ℕ
  row i x = difference_row older newer s i x

  pub none-listed : (st : Listing) → list_sites older newer s [] st ≡ st
  unfolding list_sites
  none-listed st = refl

  pub sites-append : (a b : List Site) (st : Listing) → all (a ++ b) st ≡ all b (all a st)
  unfolding list_sites
  sites-append [] b st = refl
  sites-append (x ∷ a) b st = sites-append a b (list_site older newer s x st)

  -- one site more: as many properties, at most one row, the same room
  pub record Grows (st st' : Listing) : Type 0 where
    pub property-is : st'.property ≡ st.property + 1
    pub few : st'.listed ≤ st.listed + 1
    pub same : length st'.rows ≡ length st.rows

  fit_length : (rows : List ℕ) (k : ℕ) (r : List ℕ) → length (put_fit rows k r) ≡ length rows
  unfolding put_fit
  fit_length rows k r = go (leb (k * difference_width + difference_width) (length rows))
    where
      go : (b : Bool) → length (cond b (put difference_width rows k (r ∷ [])) rows) ≡ length rows
      go true = put-length difference_width rows k (r ∷ [])
      go false = refl

  pub site_grows : (x : Site) (st : Listing) → Grows st (list_site older newer s x st)
  unfolding list_site
  site_grows x st = go (differs older newer s x.spot)
    where
      go : (b : Bool) → Grows st (cond b (listing (put_fit st.rows st.listed (row st.property x)) (st.listed + 1) (st.property + 1)) (listing st.rows st.listed (st.property + 1)))
      go true = record { property-is = refl; few = omega arith; same = fit_length st.rows st.listed (row st.property x) }
      go false = record { property-is = refl; few = omega arith; same = refl }

  -- all of them
  pub record Grown (xs : List Site) (st st' : Listing) : Type 0 where
    pub property-is : st'.property ≡ st.property + length xs
    pub few : st.listed ≤ st.property → st'.listed ≤ st'.property
    pub same : length st'.rows ≡ length st.rows

  pub sites_grow : (xs : List Site) (st : Listing) → Grown xs st (all xs st)
  unfolding list_sites
  sites_grow [] st = record { property-is = omega arith; few = λ h. h; same = refl }
  sites_grow (x ∷ xs) st =
      let g = site_grows x st in
      let r = sites_grow xs (list_site older newer s x st) in
      record {
        property-is = omega (arith, g.property-is, r.property-is);
        few = λ h. r.few (omega (arith, g.property-is, g.few));
        same = r.same ∙ g.same;
      }

  -- as many are listed as differ
  pub listed-many : (xs : List Site) (rows : List ℕ) (k i : ℕ) → (all xs (listing rows k i)).listed ≡ k + length (differences_from older newer s i xs)
  unfolding list_sites list_site differences_from
  listed-many [] rows k i = omega arith
  listed-many (x ∷ xs) rows k i = go (differs older newer s x.spot) (listed-many xs)
    where
      go : (b : Bool) → ((rows : List ℕ) (k i : ℕ) → (all xs (listing rows k i)).listed ≡ k + length (differences_from older newer s i xs))
          → (all xs (cond b (listing (put_fit rows k (row i x)) (k + 1) (i + 1)) (listing rows k (i + 1)))).listed
          ≡ k + length (cond b (row i x ∷ differences_from older newer s (i + 1) xs) (differences_from older newer s (i + 1) xs))
      go true f = f (put_fit rows k (row i x)) (k + 1) (i + 1) ∙ omega arith
      go false f = f rows k (i + 1)

  wide_row : (i : ℕ) (x : Site) → Wide difference_width (row i x ∷ [])
  unfolding difference_row
  wide_row i x = (refl, tt)

  -- and where all of them fit, their rows are written
  pub listed-rows : (xs : List Site) (rows : List ℕ) (k i : ℕ) → (k + length (differences_from older newer s i xs)) * difference_width ≤ length rows
      → (all xs (listing rows k i)).rows ≡ put difference_width rows k (differences_from older newer s i xs)
  unfolding list_sites list_site differences_from put_fit
  listed-rows [] rows k i h = sym (put-none difference_width rows k)
  listed-rows (x ∷ xs) rows k i h = go (differs older newer s x.spot) h (listed-rows xs)
    where
      fits : (k + 1 + length (differences_from older newer s (i + 1) xs)) * difference_width ≤ length rows → put_fit rows k (row i x) ≡ put difference_width rows k (row i x ∷ [])
      fits h = rw (le-leb (k * difference_width + difference_width) (length rows) (omega (arith, h)))

      go : (b : Bool) → (k + length (cond b (row i x ∷ differences_from older newer s (i + 1) xs) (differences_from older newer s (i + 1) xs))) * difference_width ≤ length rows
          → ((rows : List ℕ) (k i : ℕ) → (k + length (differences_from older newer s i xs)) * difference_width ≤ length rows → (all xs (listing rows k i)).rows ≡ put difference_width rows k (differences_from older newer s i xs))
          → (all xs (cond b (listing (put_fit rows k (row i x)) (k + 1) (i + 1)) (listing rows k (i + 1)))).rows
          ≡ put difference_width rows k (cond b (row i x ∷ differences_from older newer s (i + 1) xs) (differences_from older newer s (i + 1) xs))
      go true h f =
          let m : (k + 1 + length (differences_from older newer s (i + 1) xs)) * difference_width ≤ length rows = omega (arith, h) in
          let l : length (put_fit rows k (row i x)) ≡ length rows = fit_length rows k (row i x) in
          f (put_fit rows k (row i x)) (k + 1) (i + 1) (omega (arith, m, l))
          ∙ ap (λ (r : List ℕ). put difference_width r (k + 1) (differences_from older newer s (i + 1) xs)) (fits m)
          ∙ sym (put-append difference_width rows k (row i x ∷ []) (differences_from older newer s (i + 1) xs) (wide_row i x))
      go false h f = f rows k (i + 1) h
