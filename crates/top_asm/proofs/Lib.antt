pub mod AsmMeant
