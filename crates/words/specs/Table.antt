-- A table of worked examples: each row has what the definitions give and what a document says, of any one type; the table holds where every
-- row gives what it says. Tables of several crates join into a single one.
use Rattle.std.specs.Prelude.{◌≡◌, List, [], ◌∷◌, ◌++◌}

infixr 20 ◌&◌
-- what the definitions give, and what the document says
pub record Row : Type 1 where
  pub Kind : Type 0
  pub gives : Kind
  pub says : Kind

-- every row gives what it says
pub data Holds : List Row → Type 1 where
  end : Holds []
  ◌&◌ : {row : Row} {rows : List Row} → row.gives ≡ row.says → Holds rows → Holds (row ∷ rows)

pub join : {rows others : List Row} → Holds rows → Holds others → Holds (rows ++ others)
join end others = others
join (e & rows) others = e & join rows others
