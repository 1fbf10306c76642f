pub mod KindPlaces
