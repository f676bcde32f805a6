-- 'The first that ..': the least number that passes a test. Assumes nothing.
use Rattle.std.specs.Prelude.{ℕ, zero, suc, ◌+◌, ◌≤◌, ◌<◌, ◌≡◌, Bool, true, false, cond}

-- the least of the k numbers from i on that a test holds of, i + k if there is none
unfoldable pub least_from : (ℕ → Bool) → ℕ → ℕ → ℕ
least_from test zero i = i
least_from test (suc k) i = cond (test i) i (least_from test k (suc i))

-- m is the least of the k numbers from i on that a test holds of, i + k if there is none
pub record IsLeast (test : ℕ → Bool) (k i m : ℕ) : Type 0 where
  pub above : i ≤ m
  pub within : m ≤ i + k
  pub none : (j : ℕ) → i ≤ j → j < m → test j ≡ false
  pub holds : m < i + k → test m ≡ true
