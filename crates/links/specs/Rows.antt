-- The table of the offered links (M.2092-1, Table 4; document 01, "The links", and document 02, K4), one row to a line.
use Rattle.std.specs.Prelude.{Bool, cond, List, [], ◌∷◌, ℕ, suc, eqb, ltb, length, get_or, replicate}
use Rattle.links.specs.declared.Row.{Row}

abbrev pub row : ℕ → ℕ → ℕ → ℕ → List ℕ → ℕ → ℕ → Row
row link k k1 k2 primes pattern tail =
    record { link = link; k = k; k1 = k1; k2 = k2; primes = primes; pattern = pattern; tail = tail }

-- link, k, k1, k2, p1 .. p8, pattern, tail. Table 4 prints 240 for link 4's k2; its k, 952, makes it 238 (document 02, K4)
unfoldable pub rows : List Row
rows =
    row 4 952 4 238 (113 ∷ 31 ∷ 59 ∷ 163 ∷ 29 ∷ 181 ∷ 101 ∷ 11 ∷ []) 0x8 0x8
    ∷ row 5 288 2 144 (47 ∷ 17 ∷ 233 ∷ 127 ∷ 239 ∷ 139 ∷ 199 ∷ 163 ∷ []) 0x8 0x8b
    ∷ row 6 672 2 336 (37 ∷ 101 ∷ 191 ∷ 149 ∷ 79 ∷ 131 ∷ 229 ∷ 31 ∷ []) 0x8 0x8b
    ∷ row 7 1056 4 264 (23 ∷ 31 ∷ 167 ∷ 223 ∷ 59 ∷ 113 ∷ 47 ∷ 211 ∷ []) 0x8 0x8b
    ∷ row 8 192 2 96 (31 ∷ 37 ∷ 43 ∷ 47 ∷ 53 ∷ 59 ∷ 61 ∷ 67 ∷ []) 0x6 0x6
    ∷ row 9 448 2 224 (31 ∷ 37 ∷ 43 ∷ 47 ∷ 53 ∷ 59 ∷ 61 ∷ 67 ∷ []) 0x6 0x6
    ∷ row 10 704 2 352 (31 ∷ 37 ∷ 43 ∷ 47 ∷ 53 ∷ 59 ∷ 61 ∷ 67 ∷ []) 0x6 0x6
    ∷ row 11 432 2 216 (127 ∷ 191 ∷ 241 ∷ 5 ∷ 83 ∷ 109 ∷ 107 ∷ 179 ∷ []) 0x6 0x6a
    ∷ row 12 972 2 486 (31 ∷ 37 ∷ 43 ∷ 47 ∷ 53 ∷ 59 ∷ 61 ∷ 67 ∷ []) 0x8 0x8
    ∷ row 13 1296 2 648 (31 ∷ 37 ∷ 43 ∷ 47 ∷ 53 ∷ 59 ∷ 61 ∷ 67 ∷ []) 0x8 0x8
    ∷ row 14 896 2 448 (31 ∷ 37 ∷ 43 ∷ 47 ∷ 53 ∷ 59 ∷ 61 ∷ 67 ∷ []) 0x6 0x6
    ∷ row 15 2016 4 504 (31 ∷ 37 ∷ 43 ∷ 47 ∷ 53 ∷ 59 ∷ 61 ∷ 67 ∷ []) 0x8 0x8
    ∷ row 16 2688 4 672 (31 ∷ 37 ∷ 43 ∷ 47 ∷ 53 ∷ 59 ∷ 61 ∷ 67 ∷ []) 0x8 0x8
    ∷ row 17 1872 6 312 (211 ∷ 61 ∷ 227 ∷ 239 ∷ 181 ∷ 79 ∷ 73 ∷ 193 ∷ []) 0x6 0x6a
    ∷ row 18 4032 4 1008 (31 ∷ 37 ∷ 43 ∷ 47 ∷ 53 ∷ 59 ∷ 61 ∷ 67 ∷ []) 0x8 0x8
    ∷ row 19 5616 16 351 (137 ∷ 101 ∷ 223 ∷ 41 ∷ 67 ∷ 131 ∷ 61 ∷ 47 ∷ []) 0x8 0x8
    ∷ row 20 96 2 48 (37 ∷ 83 ∷ 211 ∷ 61 ∷ 107 ∷ 101 ∷ 149 ∷ 167 ∷ []) 0x2 0x2a
    ∷ row 21 736 2 368 (139 ∷ 17 ∷ 241 ∷ 47 ∷ 109 ∷ 11 ∷ 29 ∷ 163 ∷ []) 0x7a 0x7a
    ∷ row 22 3120 16 195 (89 ∷ 47 ∷ 239 ∷ 17 ∷ 127 ∷ 59 ∷ 43 ∷ 31 ∷ []) 0x7a 0x7b
    ∷ row 23 4544 4 1136 (31 ∷ 37 ∷ 43 ∷ 47 ∷ 53 ∷ 59 ∷ 61 ∷ 67 ∷ []) 0x7b 0x7b
    ∷ row 25 4776 12 398 (31 ∷ 37 ∷ 43 ∷ 47 ∷ 53 ∷ 59 ∷ 61 ∷ 67 ∷ []) 0x6 0x6a
    ∷ row 32 312 2 156 (37 ∷ 79 ∷ 29 ∷ 139 ∷ 151 ∷ 97 ∷ 181 ∷ 157 ∷ []) 0x2 0x2e
    ∷ row 33 4280 8 535 (59 ∷ 37 ∷ 157 ∷ 167 ∷ 239 ∷ 83 ∷ 163 ∷ 29 ∷ []) 0x4 0x4a
    ∷ []

-- what stands at no link's place
abbrev pub no_row : Row
no_row = row 0 0 0 0 (replicate 8 0) 0 0

-- the place of a link's row in a table, or the number of rows where it has none
unfoldable pub place_in : List Row → ℕ → ℕ
place_in [] link = 0
place_in (r ∷ rs) link = cond (eqb r.link link) 0 (suc (place_in rs link))

abbrev pub place : ℕ → ℕ
place link = place_in rows link

-- whether a link is offered, and its row
unfoldable pub offered : ℕ → Bool
offered link = ltb (place link) (length rows)

unfoldable pub row_of : ℕ → Row
row_of link = get_or rows (place link) no_row
