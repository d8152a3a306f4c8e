-- Texts of lists of men.
use Rattle.std.proofs.Common.{◌≡◌, ℕ, zero, suc, List, [], ◌∷◌, ◌++◌, map, take, sym, ap, ◌∙◌, append_assoc, Some, None, slice_get}
use Rattle.std.proofs.lemmas.List.{append-nil}
use Rattle.chess_text.specs.PositionText.{text_of_lines}
use Rattle.stock_text.specs.StockText.{man_text}
use Rattle.stock_text.specs.declared.stock.StockMan.{StockMan}

abbrev pub men_text : List StockMan → List ℕ
men_text men = text_of_lines (map man_text men)

-- the text of one man more
pub men_text-suc : (men : List StockMan) (i : ℕ) (m : StockMan) → slice_get men i ≡ Some m → men_text (take (suc i) men) ≡ men_text (take i men) ++ (man_text m ++ 10 ∷ [])
men_text-suc [] i m h = absurd (let e : None ≡ Some m = h in cc)
men_text-suc (x ∷ men) zero m h = let same : x ≡ m = cc in ap (λ y. (man_text y ++ 10 ∷ []) ++ []) same ∙ append-nil (man_text m ++ 10 ∷ [])
men_text-suc (x ∷ men) (suc i) m h =
    ap (λ rest. (man_text x ++ 10 ∷ []) ++ rest) (men_text-suc men i m h)
    ∙ sym (append_assoc (man_text x ++ 10 ∷ []) (men_text (take i men)) (man_text m ++ 10 ∷ []))
