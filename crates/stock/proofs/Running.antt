-- A run of calls, call by call. Assumes nothing.
use Rattle.std.proofs.Common.{◌≡◌, ℕ, ◌+◌, ◌<◌, List, [], ◌∷◌, ◌++◌, map, length, get_or, take, sym, ap, ◌∙◌}
use Rattle.std.proofs.lemmas.List.{take_more, map-append, append_assoc}
use Rattle.basis.specs.Figures.{Figures}
use Rattle.stock.specs.declared.call.Call.{Call as LentCall}
use Rattle.stock.specs.Handed.{told}
use Rattle.stock.specs.Register.{Call, Entry}
use Rattle.stock.specs.Law.{pair_of, totals, EquallyOften}
use Rattle.stock.proofs.Counting.{equal_sums}

-- one call more
pub one_played : (h : List Call) (calls : List LentCall) (n : ℕ) (d : LentCall) → n < length calls → (h ++ map told (take n calls)) ++ told (get_or calls n d) ∷ [] ≡ h ++ map told (take (n + 1) calls)
one_played h calls n d inside =
    append_assoc h (map told (take n calls)) (told (get_or calls n d) ∷ []) ∙ ap (λ x. h ++ x) (sym (ap (map told) (take_more calls n d inside) ∙ map-append told (take n calls) (get_or calls n d ∷ [])))

-- equal figures and terms, and promises equally often: equal totals
pub equal_totals : (f g : Figures) (i j t u : ℕ) (es ds : List Entry) → f ≡ g → i ≡ j → t ≡ u → EquallyOften es ds → totals f i t es ≡ totals g j u ds
equal_totals f g i j t u es ds ef ei et equally =
    let lower = equal_sums (λ p. (pair_of g j u p).lower) es ds equally in
    let upper = equal_sums (λ p. (pair_of g j u p).upper) es ds equally in
    (λ k. totals (ef k) (ei k) (et k) es) ∙ (λ k. record { lower = lower k; upper = upper k })
