pub mod LastWhere
